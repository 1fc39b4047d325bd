-- What a count of items tells, and the steps of a loop that counts.
use Prim.Native.Nat.{ℕ, ◌+◌, ◌≤◌}
use mathlib.Core.Path.{◌≡◌, sym}
use mathlib.Core.List.{List}
use mathlib.Core.Bool.{true, false}
use native.Mathlib.Omega.{arith}
use lib.ListN.{length}
use Rattle.listing.specs.Listing.{stands, run}
use Rattle.listing.proofs.Items.{run_no, run_inside}
use Rattle.listing.proofs.Bound.{run_on}
use Rattle.parser_items.specs.Count.{Ran}

-- what a count tells
pub ran : {r k n : ℕ} {l : List ℕ} {from : ℕ} → from ≤ length l → run k n (length l) l from ≡ r → Ran l k n from r
ran {r} {k} {n} {l} {from} i e = record { is = sym e; inside = rw (← e) (run_inside k n (length l) l from i) }

-- a loop that has counted c items and stands at `at`
module _ {x : ℕ} (c k n : ℕ) (l : List ℕ) (at : ℕ) (so_far : x ≡ c + run k n (length l) l at) where
  pub run-ended : stands k n l at ≡ false → x ≡ c
  run-ended e = let z = run_no k n (length l) l at e in omega arith

  pub run-next : 1 ≤ n → stands k n l at ≡ true → x ≡ c + 1 + run k n (length l) l (at + n)
  run-next o e = let z = run_on k n l at o e in omega arith
