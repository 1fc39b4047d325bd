use Rattle.glance.specs.Look.{Rights}
use Rattle.glance_any.proofs.rest.Given as goal

abbrev pub invariant-loop-i : goal.invariant-loop-i
invariant-loop-i l = Rights l.old l.s l.limit l.at l.begun → Rights l.old l.s l.limit l.at l.i
