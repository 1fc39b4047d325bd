use mathlib.Core.Path.{ap, ◌∙◌}
use Rattle.treskibben_answers.specs.Answer.{location_of}
use Rattle.treskibben_questions.proofs.location.Goals as goal

pub returns : goal.returns
returns c = c.location_answer.ensures ∙ ap location_of c.location.ensures
