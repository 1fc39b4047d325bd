use Rattle.builder_items.proofs.Puts.{constant-put}
use Rattle.builder_items.proofs.item.ConstantItem.put.Goals as goal

pub returns : goal.returns
returns c =
    let a = c.args in
    rw (c.put_u64.ensures, c.u64_at.ensures) (constant-put a.l.now a.at a.out.now a.to)
