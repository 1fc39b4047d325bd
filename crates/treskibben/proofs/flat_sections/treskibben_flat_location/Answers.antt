use mathlib.Core.Path.{ap, ◌∙◌}
use Rattle.treskibben_flat.specs.Flat.{location_of}
use Rattle.treskibben.proofs.flat_sections.treskibben_flat_location.Goals as goal

pub returns : goal.returns
returns c = c.location_answer.ensures ∙ ap location_of c.location.ensures
