use Prim.Native.Nat.{◌+◌}
use mathlib.Core.Path.{◌≡◌}
use Rattle.index_owner.specs.Owner.{before}
use Rattle.index_owner.proofs.counts_of.Given as goal

abbrev pub invariant-loop-f : goal.invariant-loop-f
invariant-loop-f l = (before l.s l.f ≡ before l.s l.first + l.total)
