-- Where an item is cut: the first that is not wholly inside, by a division.
use Prim.Native.Nat.{ℕ, zero, suc, ◌+◌, ◌*◌, ◌-◌, ◌/◌, ◌≤◌, ◌<◌}
use mathlib.Core.Path.{◌≡◌, ◌∙◌}
use mathlib.Core.Bool.{Bool, true, false}
use mathlib.Core.List.{List}
use native.Mathlib.Omega.{arith}
use native.Mathlib.Decide.{dec_lt}
use borrow.Author.Tests.{le-leb, lt-leb}
use lib.ListN.{length}
use Rattle.stackmap.specs.Layout.{function_size}
use Rattle.stackmap.specs.Section.{num_functions, num_constants, is_old, constants_at, records_at}
use Rattle.stackmap.specs.Check.{first_outside}

-- n divides as sizes do
record Divides (n : ℕ) : Type 0 where
  over : (k : ℕ) → n ≤ k → n * (k / n) ≡ n + n * ((k - n) / n)
  under : (k : ℕ) → k < n → n * (k / n) ≡ 0

function_divides : (old : Bool) → Divides (function_size old)
function_divides true = record { over = λ k h. omega arith; under = λ k h. omega arith }
function_divides false = record { over = λ k h. omega arith; under = λ k h. omega arith }

constant_divides : Divides 8
constant_divides = record { over = λ k h. omega arith; under = λ k h. omega arith }

cut : (n m : ℕ) (s : List ℕ) (at : ℕ) → Divides n → at ≤ length s → length s < at + n * m → first_outside n m s at ≡ at + n * ((length s - at) / n)
unfolding first_outside
cut n zero s at d l h = absurd (omega arith)
cut n (suc m) s at d l h = go (λ x y. cut n m s (at + n) d x y) (dec_lt (length s) (at + n))
  where
    go : (at + n ≤ length s → length s < at + n + n * m → first_outside n m s (at + n) ≡ at + n + n * ((length s - (at + n)) / n))
        → Dec (length s < at + n) → first_outside n (suc m) s at ≡ at + n * ((length s - at) / n)
    go rest (yes a) = rw (lt-leb (at + n) (length s) a, d.under (length s - at) (omega arith)) (omega arith)
    go rest (no a) =
        let z : length s - (at + n) ≡ length s - at - n = omega arith in
        let i = rw z at (rest (omega arith) (omega arith)) in
        rw (le-leb (at + n) (length s) (omega arith), d.over (length s - at) (omega arith)) (i ∙ omega arith)

module _ (s : List ℕ) where
  pub function-cut : 16 ≤ length s → length s < constants_at s
      → first_outside (function_size (is_old s)) (num_functions s) s 16 ≡ 16 + function_size (is_old s) * ((length s - 16) / function_size (is_old s))
  function-cut l h = cut (function_size (is_old s)) (num_functions s) s 16 (function_divides (is_old s)) l h

  pub constant-cut : constants_at s ≤ length s → length s < records_at s
      → first_outside 8 (num_constants s) s (constants_at s) ≡ constants_at s + 8 * ((length s - constants_at s) / 8)
  constant-cut l h = cut 8 (num_constants s) s (constants_at s) constant_divides l h
