-- What the tests of the code say of clashes.
use Prim.Native.Nat.{ℕ, suc, ◌+◌, ◌-◌, ◌≤◌}
use mathlib.Core.Path.{◌≡◌}
use mathlib.Core.Bool.{Bool, false, not, and-false}
use borrow.Author.Tests.{eq-eqb, le-ltb}
use lib.Dec.{eqb, ltb}
use mathlib.Core.List.{List}
use Rattle.moves.specs.Search.{any_below, lowest_from}
use Rattle.moves.specs.Arrays.{overlap_at, clash_at, first_clash}
use Rattle.moves.proofs.Searches.{low-start}

pub overlap-same : (x y : ℕ) → x ≡ y → overlap_at x y ≡ false
unfolding overlap_at
overlap-same x y e = rw (eq-eqb x y e)

pub overlap-left : (x y : ℕ) → y + 8 ≤ x → overlap_at x y ≡ false
unfolding overlap_at
overlap-left x y h = rw (le-ltb x (y + 8) h) (and-false (not (eqb x y)))

pub overlap-right : (x y : ℕ) → x + 8 ≤ y → overlap_at x y ≡ false
unfolding overlap_at
overlap-right x y h = rw (le-ltb y (x + 8) h, and-false (ltb x (y + 8))) (and-false (not (eqb x y)))

-- what the loop over the pairs goes by
abbrev pub bad_at : List ℕ → List ℕ → List ℕ → List ℕ → ℕ → Bool
bad_at live bs ds vs p = any_below (clash_at live bs ds vs p) (suc p)

pub collision_start : (live bs ds vs : List ℕ) (n : ℕ) → lowest_from (bad_at live bs ds vs) (n - 0) 0 ≡ first_clash live bs ds vs n
unfolding first_clash
collision_start live bs ds vs n = low-start (bad_at live bs ds vs) n
