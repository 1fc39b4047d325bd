use Rattle.std.proofs.Common.{◌≡◌, ◌+◌, ◌*◌, arith, rules}
use Rattle.glance.proofs.Laws.{join}
use Rattle.glance_any.proofs.by_fours.Goals as goal

pub loop-i-preserved : goal.loop-i-preserved
loop-i-preserved c =
    let a = c.args in
    let n = 4 * c.loop-i.i in
    let e : 4 * (c.loop-i.i + 1) ≡ n + 4 = omega arith in
    rw e (join a.old a.s.now a.limit a.at n n 4 (omega arith) c.loop-i.invariant (rw c.place.ensures at (c.any_four.ensures (search rules))))
