use mathlib.Core.Path.{ap, ◌∙◌}
use Rattle.treskibben_flat.specs.Flat.{record_of}
use Rattle.treskibben.proofs.flat_sections.treskibben_flat_record.Goals as goal

pub returns : goal.returns
returns c = c.record_answer.ensures ∙ ap record_of c.record.ensures
