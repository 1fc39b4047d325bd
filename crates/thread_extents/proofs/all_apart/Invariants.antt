use Prim.Native.Nat.{ℕ, ◌≤◌}
use Rattle.thread_stretches.specs.Listed.{Listed}
use Rattle.thread_extents.specs.Extents.{GivesExtents}
use Rattle.thread_extents.proofs.all_apart.Given as goal

abbrev pub invariant-loop-k : goal.invariant-loop-k
invariant-loop-k g l =
    ((from to : ℕ → ℕ) → GivesExtents (goal.F-post g l.extent) from to l.count → Listed from to l.k l.kept l.pairs l.ends) × (l.kept ≤ l.k)
