use mathlib.Core.Path.{ap, ◌∙◌}
use Rattle.treskibben_answers.specs.Answer.{record_place_of}
use Rattle.treskibben_questions.proofs.place.Goals as goal

pub returns : goal.returns
returns c = c.record_answer.ensures ∙ ap record_place_of c.locate.ensures.0
