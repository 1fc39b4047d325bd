use Rattle.report.specs.Totals.{plus_kinds, of_kind}
use Rattle.report_records.proofs.with_kind.Goals as goal

pub returns : goal.returns
unfolding plus_kinds of_kind
returns c = rw (c.hit.ensures.0, c.hit-2.ensures.0, c.hit-3.ensures.0, c.hit-4.ensures.0, c.hit-5.ensures.0)
