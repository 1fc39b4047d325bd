use Prim.Native.Nat.{◌+◌, ◌*◌}
use mathlib.Core.Path.{◌≡◌}
use native.Mathlib.Omega.{arith}
use Rattle.flat_along.proofs.Below.{fours_on}
use Rattle.flat_along.proofs.fours_below.Goals as goal

pub returns-then-four-limit : goal.returns-then-four-limit
returns-then-four-limit c = c.loop-q.invariant

pub loop-q-preserved : goal.loop-q-preserved
loop-q-preserved c =
    let e : 4 * c.loop-q.q + 4 ≡ 4 * (c.loop-q.q + 1) = omega arith in
    rw e at (fours_on _ _ _ _ _ _ c.loop-q.invariant (omega arith) (c.four.ensures _ c.if-four-limit.false))
