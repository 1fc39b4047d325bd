use mathlib.Core.Path.{ap, ◌∙◌}
use Rattle.treskibben_flat.specs.Flat.{frame_of}
use Rattle.treskibben.proofs.flat_sections.treskibben_flat_frame.Goals as goal

pub returns : goal.returns
returns c = c.frame_answer.ensures ∙ ap frame_of c.frame.ensures
