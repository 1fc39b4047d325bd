use Rattle.std.proofs.Common.{◌≡◌, ◌-◌, ◌<◌, length}
use Rattle.stackmap.specs.Section.{num_functions}
use Rattle.stackmap.specs.Walk.{ahead, Turning}
use Rattle.stackmap_check.proofs.walk.owner.Given as goal

-- The turn passes on while nothing is left; what is ahead stays.
abbrev pub invariant-loop-left : goal.invariant-loop-left
invariant-loop-left l = Turning l.s l.next l.left × (0 < length (ahead l.s l.next l.left)) × (ahead l.s l.next l.left ≡ ahead l.s l.initial.next l.initial.left)

abbrev pub decreases-loop-left : goal.decreases-loop-left
decreases-loop-left l = num_functions l.s - l.next
