use native.Mathlib.Omega.{arith}
use Rattle.wire.specs.Word.{Bytes}
use Rattle.builder_items.proofs.Puts.{live_out_put}
use Rattle.builder_items.proofs.item.LiveOutItem.put.Goals as goal

pub returns : goal.returns
returns c =
    let a = c.args in
    let w : Bytes a.l.now = record { below = λ i. omega (arith, c.type_inv.l i) } in
    rw (c.put_u16.ensures, c.u16_at-register.ensures) (live_out_put a.l.now a.at a.out.now a.to w)
