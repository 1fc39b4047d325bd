use mathlib.Core.Path.{ap, ◌∙◌}
use Rattle.treskibben_flat.specs.Flat.{checked}
use Rattle.treskibben.proofs.flat_sections.treskibben_flat_check.Goals as goal

pub returns : goal.returns
returns c = c.checked_answer.ensures ∙ ap checked c.check.ensures
