use Prim.Native.Nat.{◌-◌}
use lib.ListN.{length}
use Rattle.linked_search.proofs.Sweeps.{Sweep}
use Rattle.linked_search.proofs.find_all.Given as goal

-- One walk over the maps, each with one scan.
abbrev pub invariant-loop-at : goal.invariant-loop-at
invariant-loop-at l = Sweep l.section l.keys l.count l.hits l.sites l.table l.n l.at l.old

abbrev pub decreases-loop-at : goal.decreases-loop-at
decreases-loop-at l = length l.section - l.at
