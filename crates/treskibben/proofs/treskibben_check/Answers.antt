use mathlib.Core.Path.{ap, ◌∙◌}
use Rattle.treskibben_answers.specs.Answer.{answer}
use Rattle.treskibben.proofs.treskibben_check.Goals as goal

pub returns : goal.returns
returns c = c.check_answer.ensures ∙ ap answer c.check.ensures
