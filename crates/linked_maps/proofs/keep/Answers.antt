use mathlib.Core.Path.{sym}
use native.Mathlib.Omega.{arith}
use lib.Seq.{set_out}
use Rattle.linked_maps.proofs.keep.Goals as goal

pub returns-else-i-ends : goal.returns-else-i-ends
returns-else-i-ends c = sym (set_out _ _ _ (omega arith))
