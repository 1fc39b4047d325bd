-- The definitions that read a listing count down from a bound, its length. It suffices: a larger bound changes nothing.
use Rattle.std.specs.Prelude.{ℕ, ◌≤◌, ◌≡◌, List, length}
use Rattle.listing.specs.Listing.{run, listed_records, records_stop}

pub record BoundSuffices : Type 0 where
  pub runs : (k n m : ℕ) (l : List ℕ) (at : ℕ) → 1 ≤ n → length l ≤ m → run k n m l at ≡ run k n (length l) l at
  pub records : (m : ℕ) (l : List ℕ) (at : ℕ) → length l ≤ m → listed_records l m at ≡ listed_records l (length l) at
  pub stops : (m : ℕ) (l : List ℕ) (at : ℕ) → length l ≤ m → records_stop l m at ≡ records_stop l (length l) at
