use Prim.Native.Nat.{◌-◌}
use Rattle.stackmap.specs.Section.{records_at}
use Rattle.stackmap.proofs.Turns.{Walking}
use Rattle.stackmap_check.specs.Pass.{Passed}
use Rattle.thread_pass.specs.Inside.{Inside}
use Rattle.thread_pass.proofs.between.Given as goal

-- The records that are passed over are right and lie between the two numbers; the walk goes on as it does.
abbrev pub invariant-loop-passed : goal.invariant-loop-passed
invariant-loop-passed l = Passed l.s l.constants (Inside l.below l.above) l.initial.turn.next l.initial.turn.left l.count l.at l.passed l.turn.next l.turn.left (l.count - l.passed) l.p × Walking l.s l.constants (records_at l.s) l.turn.next l.turn.left (l.count - l.passed) l.p
