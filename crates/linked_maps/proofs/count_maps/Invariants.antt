use Prim.Native.Nat.{◌-◌}
use mathlib.Core.Path.{◌≡◌}
use lib.ListN.{length}
use Rattle.linked_maps.proofs.Counting.{Counting}
use Rattle.linked_maps.proofs.count_maps.Given as goal

-- What is left tells what the whole tells, and the ends of the maps so far are kept.
abbrev pub invariant-loop-end : goal.invariant-loop-end
invariant-loop-end l = Counting l.s l.ends l.at l.count × (length l.ends ≡ length l.initial.ends)

abbrev pub decreases-loop-end : goal.decreases-loop-end
decreases-loop-end l = length l.s - l.at
