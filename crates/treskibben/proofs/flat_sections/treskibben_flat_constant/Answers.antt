use mathlib.Core.Path.{ap, ◌∙◌}
use Rattle.treskibben_flat.specs.Flat.{constant_of}
use Rattle.treskibben.proofs.flat_sections.treskibben_flat_constant.Goals as goal

pub returns : goal.returns
returns c = c.constant_answer.ensures ∙ ap constant_of c.constant.ensures
