use mathlib.Core.List.{List}
use Rattle.linked.specs.Linked.{Map}
use Rattle.linked_maps.proofs.Putting.{Putting}
use Rattle.linked_maps.proofs.put_maps.Given as goal

-- The numbers of the maps so far are written, those of the maps ahead are left.
abbrev pub invariant-loop-i : goal.invariant-loop-i
invariant-loop-i l = (rest : List Map) × Putting l.s l.initial.out l.out l.count l.at l.i rest
