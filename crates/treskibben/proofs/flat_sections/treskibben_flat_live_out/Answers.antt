use mathlib.Core.Path.{ap, ◌∙◌}
use Rattle.treskibben_flat.specs.Flat.{live_out_of}
use Rattle.treskibben.proofs.flat_sections.treskibben_flat_live_out.Goals as goal

pub returns : goal.returns
returns c = c.live_out_answer.ensures ∙ ap live_out_of c.live_out.ensures
