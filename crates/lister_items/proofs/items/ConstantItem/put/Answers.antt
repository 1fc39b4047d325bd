use Rattle.lister_items.proofs.Stores.{constant-put}
use Rattle.lister_items.proofs.items.ConstantItem.put.Goals as goal

pub returns : goal.returns
returns c = rw (c.put_u64.ensures, c.u64_at.ensures) (constant-put _ _ _ _)
