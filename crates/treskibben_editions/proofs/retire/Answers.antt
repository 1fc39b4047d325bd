use mathlib.Core.Path.{ap, ◌∙◌}
use Rattle.treskibben_editions.specs.Answer.{retire_answer}
use Rattle.treskibben_editions.proofs.retire.Goals as goal

pub returns : goal.returns
returns c = c.retire_answer.ensures ∙ ap retire_answer c.retire.ensures
