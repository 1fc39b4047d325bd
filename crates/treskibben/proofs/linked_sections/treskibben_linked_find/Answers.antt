use mathlib.Core.Path.{ap, ◌∙◌}
use Rattle.treskibben_linked.specs.Answer.{found_answer}
use Rattle.treskibben.proofs.linked_sections.treskibben_linked_find.Goals as goal

pub returns : goal.returns
returns c = c.find_answer.ensures ∙ ap found_answer c.find.ensures
