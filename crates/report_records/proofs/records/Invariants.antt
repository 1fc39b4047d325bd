use Rattle.report_records.proofs.Tally.{Tallying}
use Rattle.report_records.proofs.records.Given as goal

abbrev pub invariant-loop-after : goal.invariant-loop-after
invariant-loop-after l = Tallying l.s l.place l.counts

abbrev pub decreases-loop-after : goal.decreases-loop-after
decreases-loop-after l = l.place.remaining
