use borrow.Author.Tests.{eq-eqb, ne_eqb}
use Rattle.report_lines.specs.Lines.{written}
use Rattle.report_lines.proofs.lines.Goals as goal

pub returns-then-r-eq0 : goal.returns-then-r-eq0
unfolding written
returns-then-r-eq0 c = rw (eq-eqb _ _ c.if-r-eq0.true) c.put_report.ensures

pub returns : goal.returns
unfolding written
returns c = rw (ne_eqb _ _ c.if-r-eq0.false) c.put_refused.ensures
