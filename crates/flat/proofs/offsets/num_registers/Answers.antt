use native.Mathlib.Omega.{arith}
use mathlib.Core.Path.{◌∙◌}
use Rattle.flat.specs.Places.{num_registers}
use Rattle.flat.proofs.offsets.num_registers.Goals as goal

pub returns : goal.returns
unfolding num_registers
returns c =
    let e = c.offset.ensures.0 in
    let n = c.num_frames.ensures in
    (c.registers_used.ensures.0 ∙ rw (e, n), omega arith)
