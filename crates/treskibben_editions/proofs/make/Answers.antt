use mathlib.Core.Path.{ap, ◌∙◌}
use Rattle.treskibben_editions.specs.Answer.{make_answer}
use Rattle.treskibben_editions.proofs.make.Goals as goal

pub returns : goal.returns
returns c = c.make_answer.ensures ∙ ap make_answer c.make.ensures
