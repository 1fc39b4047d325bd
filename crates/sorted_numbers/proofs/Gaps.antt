-- Gaps of a sorted list: what they tell of a number.
use Prim.Native.Nat.{ℕ, ◌<◌}
use mathlib.Core.Path.{◌≡◌}
use mathlib.Core.List.{List}
use native.Mathlib.Omega.{arith}
use native.Mathlib.Decide.{dec_lt}
use lib.ListN.{get_or}
use Rattle.sorted_numbers.specs.Numbers.{Between}

-- nothing lies strictly between 0 and 0
pub between_start : (xs : List ℕ) (n : ℕ) → Between xs n 0 0 0
between_start xs n = record { most = omega arith; lower = λ j l. absurd (omega arith); upper = λ j l m. omega arith }

-- a number in the gap is no entry
pub between_none : {xs : List ℕ} {n below above place : ℕ} (x : ℕ) → Between xs n below above place → below < x → x < above → (j : ℕ) → j < n
    → get_or xs j 0 ≡ x → ⊥
between_none {place = place} x b l m j h e = go (dec_lt j place)
  where
    go : Dec (j < place) → ⊥
    go (yes d) = omega (arith, b.lower j d)
    go (no d) = omega (arith, b.upper j (omega arith) h)
