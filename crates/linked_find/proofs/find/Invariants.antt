use Prim.Native.Nat.{◌-◌}
use lib.ListN.{length}
use Rattle.linked_find.proofs.Turns.{Asking}
use Rattle.linked_find.proofs.find.Given as goal

-- One walk a map; what is left gives what the whole gives.
abbrev pub invariant-loop-found : goal.invariant-loop-found
invariant-loop-found l = Asking l.section l.address l.at l.number l.found

abbrev pub decreases-loop-found : goal.decreases-loop-found
decreases-loop-found l = length l.section - l.at
