use Prim.Native.Nat.{◌+◌, ◌<◌}
use lib.ListN.{get_or}
use native.Mathlib.Omega.{arith}
use Rattle.lister_items.proofs.Stores.{live_out_put}
use Rattle.lister_items.proofs.items.LiveOutItem.put.Goals as goal

pub returns : goal.returns
returns c =
    let a = c.args in
    let h : get_or a.s.now (a.at + 3) 0 < 256 = omega (arith, c.type_inv.s (a.at + 3)) in
    rw (c.put_u16.ensures, c.u16_at.ensures) (live_out_put _ _ _ _ h)
