use mathlib.Core.Path.{ap, ◌∙◌}
use Rattle.treskibben_flat.specs.Flat.{register_of}
use Rattle.treskibben.proofs.flat_sections.treskibben_flat_frame_register.Goals as goal

pub returns : goal.returns
returns c = c.register_answer.ensures ∙ ap register_of c.register.ensures
