use Rattle.std.specs.Prelude.{◌-◌}
use Rattle.stackmap.proofs.Turns.{Walking}
use Rattle.stackmap_check.proofs.walk.all_records.Given as goal

-- The walk goes from one turn to the next, and what is ahead gives what the whole gives.
abbrev pub invariant-loop-passed : goal.invariant-loop-passed
invariant-loop-passed l = Walking l.s l.constants l.at l.turn.next l.turn.left (l.count - l.passed) l.p
