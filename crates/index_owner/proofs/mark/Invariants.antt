use Prim.Native.Nat.{◌*◌}
use mathlib.Core.Path.{◌≡◌}
use lib.ListN.{length}
use Rattle.std.specs.Prelude.{min}
use Rattle.index_owner.specs.Owner.{before, Marking}
use Rattle.index_owner.proofs.mark.Given as goal

-- Each mark is the number of records before its function.
abbrev pub invariant-loop-i : goal.invariant-loop-i
invariant-loop-i l = Marking l.s l.marks l.i × (length l.marks ≡ length l.initial.marks) × (l.base ≡ before l.s (min l.functions (86 * l.i)))
