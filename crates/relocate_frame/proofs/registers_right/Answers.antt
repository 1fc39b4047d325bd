use mathlib.Core.Path.{refl}
use Rattle.relocate.specs.Stopped.{registers_right}
use Rattle.relocate_frame.proofs.registers_right.Goals as goal

pub returns : goal.returns
unfolding registers_right
returns c = refl
