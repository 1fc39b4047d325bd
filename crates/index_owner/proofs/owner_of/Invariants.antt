use Prim.Native.Nat.{◌+◌, ◌-◌, ◌<◌}
use mathlib.Core.Path.{◌≡◌}
use Rattle.stackmap.specs.Section.{num_functions}
use Rattle.index_owner.specs.Owner.{before}
use Rattle.index_owner.proofs.owner_of.Given as goal

-- From the last mark that is not above the record, one function after the other.
abbrev pub invariant-loop-here : goal.invariant-loop-here
invariant-loop-here l = (l.f < num_functions l.s) × (before l.s l.f + l.left ≡ l.number) × (before l.s (l.f + 1) ≡ before l.s l.f + l.here)

abbrev pub decreases-loop-here : goal.decreases-loop-here
decreases-loop-here l = num_functions l.s - l.f
