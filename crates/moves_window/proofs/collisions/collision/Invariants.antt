use Prim.Native.Nat.{ℕ, ◌-◌, ◌<◌}
use mathlib.Core.Path.{◌≡◌}
use mathlib.Core.Bool.{false}
use Rattle.moves.specs.Search.{lowest_from}
use Rattle.moves.specs.Arrays.{clash_at, first_clash}
use Rattle.moves_window.proofs.Clashes.{bad_at}
use Rattle.moves_window.proofs.collisions.collision.Given as goal

abbrev pub invariant-loop-q : goal.invariant-loop-q
invariant-loop-q l = (k : ℕ) → k < l.q → clash_at l.live l.bases l.derived l.contents l.p k ≡ false

abbrev pub invariant-loop-p : goal.invariant-loop-p
invariant-loop-p l =
    lowest_from (bad_at l.live l.bases l.derived l.contents) (l.pairs - l.p) l.p ≡ first_clash l.live l.bases l.derived l.contents l.pairs
