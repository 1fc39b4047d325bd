use mathlib.Core.Path.{◌∙◌}
use Rattle.wire.proofs.Laws.{part_reads}
use Rattle.wire.proofs.u32_at.Goals as goal

pub returns : goal.returns
returns c = c.from_le_bytes.ensures ∙ part_reads 3 c.args.s.now _ c.args.at (rw c.unwrap.ensures at c.as_array.ensures.cases)
