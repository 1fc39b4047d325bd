use Prim.Native.Nat.{ℕ}
use mathlib.Core.List.{List}
use Rattle.thread_marks.specs.From.{Grown}
use Rattle.linked.specs.Linked.{Map}
use Rattle.linked_search.specs.Found.{Finding}
use Rattle.linked_search.proofs.Table.{Settling}
use Rattle.linked_search.proofs.settle.Given as goal

abbrev pub invariant-loop-i : goal.invariant-loop-i
invariant-loop-i l = ((keys : List ℕ) (done : List Map) → Finding keys l.count l.table l.n l.initial.sites l.initial.hits done → Settling keys l.count l.table l.n l.i l.sites l.hits done) × Grown l.initial.hits l.hits 0
