use Prim.Native.Nat.{◌-◌}
use lib.ListN.{length}
use Rattle.parser_items.specs.Survey.{Passed, Measured}
use Rattle.parser_items.proofs.count.survey_records.Given as goal

abbrev pub invariant-loop-stop : goal.invariant-loop-stop
invariant-loop-stop l = Passed l.l l.from l.records l.stop × Measured l.l l.old l.from l.size l.stop

abbrev pub decreases-loop-stop : goal.decreases-loop-stop
decreases-loop-stop l = length l.l - l.stop
