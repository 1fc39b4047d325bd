use Prim.Native.Nat.{◌*◌}
use Rattle.glance.specs.Look.{Rights}
use Rattle.glance_any.proofs.by_fours.Given as goal

abbrev pub invariant-loop-i : goal.invariant-loop-i
invariant-loop-i l = Rights l.old l.s l.limit l.at (4 * l.i)
