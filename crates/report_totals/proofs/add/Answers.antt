use mathlib.Core.Path.{sym, ap, ◌∙◌}
use Rattle.report.specs.declared.Totals.{Totals}
use Rattle.report.specs.Totals.{joined_at, add_section}
use Rattle.report_totals.proofs.Whole.{add-over}
use Rattle.report_totals.proofs.add.Goals as goal

pub returns-in-Some : goal.returns-in-Some
unfolding add_section
returns-in-Some c =
    let a = c.args in
    c.joined_at.ensures ∙ ap (λ (t : Totals). joined_at a.totals.sections a.totals t) (rw c.in-Some.is at c.tally.ensures)

pub returns-in-None : goal.returns-in-None
returns-in-None c = sym (add-over _ _ (rw c.in-None.is at c.tally.ensures))
