use mathlib.Core.Path.{ap, ◌∙◌}
use Rattle.treskibben_answers.specs.Answer.{live_out_of}
use Rattle.treskibben_questions.proofs.live_out.Goals as goal

pub returns : goal.returns
returns c = c.live_out_answer.ensures ∙ ap live_out_of c.live_out.ensures
