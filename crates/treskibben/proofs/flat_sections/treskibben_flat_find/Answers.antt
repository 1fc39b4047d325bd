use mathlib.Core.Path.{ap, ◌∙◌}
use Rattle.treskibben_flat.specs.Flat.{matched}
use Rattle.treskibben.proofs.flat_sections.treskibben_flat_find.Goals as goal

pub returns : goal.returns
returns c = c.match_answer.ensures ∙ ap matched c.find.ensures
