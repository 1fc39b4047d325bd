use borrow.Author.Rules.{rules}
use Rattle.report.specs.Totals.{of_refused}
use Rattle.report_totals.proofs.refused_totals.Goals as goal

pub returns : goal.returns
unfolding of_refused
returns c = search rules
