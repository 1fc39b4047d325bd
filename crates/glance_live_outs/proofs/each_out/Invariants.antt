use Rattle.glance.specs.Look.{Outs}
use Rattle.glance_live_outs.proofs.each_out.Given as goal

abbrev pub invariant-loop-i : goal.invariant-loop-i
invariant-loop-i l = Outs l.s l.at l.i
