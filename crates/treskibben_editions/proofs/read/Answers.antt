use mathlib.Core.Path.{ap, ◌∙◌}
use Rattle.treskibben_editions.specs.Answer.{read_answer}
use Rattle.treskibben_editions.proofs.read.Goals as goal

pub returns : goal.returns
returns c = c.read_answer.ensures ∙ ap read_answer c.read.ensures
