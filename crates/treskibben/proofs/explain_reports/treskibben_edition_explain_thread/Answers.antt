use mathlib.Core.Path.{ap, ◌∙◌}
use Rattle.treskibben_answers.specs.Answer.{move_answer}
use Rattle.treskibben.proofs.explain_reports.treskibben_edition_explain_thread.Goals as goal

pub returns : goal.returns
returns c = let t = c.explain_thread.ensures in (c.move_answer.ensures ∙ ap move_answer t.0, t.1)
