-- What the tests of an array tell: `all` over a range, and four bytes together.
use Prim.Native.Nat.{ℕ, zero, suc, ◌+◌, ◌*◌, ◌≤◌, ◌<◌}
use mathlib.Core.Path.{◌≡◌, refl}
use mathlib.Core.Bool.{Bool}
use mathlib.Core.List.{List}
use native.Mathlib.Omega.{arith}
use borrow.Author.Tests.{lt-ltb}
use lib.Dec.{ltb}
use lib.Bits.{bit_or, or_add_and, and_le_l, and_le_r}
use lib.ListN.{get_or}
use Rattle.flat_along.specs.Fours.{FourBelow}
use Rattle.flat.specs.Steps.{Testing}
use Rattle.flat.proofs.Steps.{test_four}
use native.Mathlib.Numerals.{add-one}
use Rattle.std.specs.List.{list_all, range_with_len}
use Rattle.flat.specs.Places.{every}

-- a test of every number from i on, as `all` over a range tells it
pub every_number : (p : ℕ → Bool) (i n : ℕ) → list_all p (range_with_len i n) ≡ every p i n
unfolding every
every_number p i zero = refl
every_number p i (suc n) = rw (add-one, every_number p (suc i) n)

-- Four bytes together.

or_left : (x y : ℕ) → x ≤ bit_or x y
or_left x y = let a = or_add_and x y in let b = and_le_r x y in omega arith

or_right : (x y : ℕ) → y ≤ bit_or x y
or_right x y = let a = or_add_and x y in let b = and_le_l x y in omega arith

pub four_below : (s : List ℕ) (p step limit : ℕ) → bit_or (bit_or (get_or s p 0) (get_or s (p + step) 0)) (bit_or (get_or s (p + step + step) 0) (get_or s (p + step + step + step) 0)) < limit
    → FourBelow s limit p step
four_below s p step limit h =
    let a = get_or s p 0 in
    let b = get_or s (p + step) 0 in
    let c = get_or s (p + step + step) 0 in
    let d = get_or s (p + step + step + step) 0 in
    let l = or_left (bit_or a b) (bit_or c d) in
    let r = or_right (bit_or a b) (bit_or c d) in
    record {
      first = let z = or_left a b in omega arith;
      second = let z = or_right a b in omega arith;
      third = let z = or_left c d in omega arith;
      fourth = let z = or_right c d in omega arith;
    }

pub fours_on : (s : List ℕ) (limit at step n i : ℕ) → Testing (λ k. ltb (get_or s (at + step * k) 0) limit) n i → i + 4 ≤ n → FourBelow s limit (at + step * i) step
    → Testing (λ k. ltb (get_or s (at + step * k) 0) limit) n (i + 4)
fours_on s limit at step n i t l f =
    let b : at + step * (i + 1) ≡ at + step * i + step = omega arith in
    let c : at + step * (i + 2) ≡ at + step * i + step + step = omega arith in
    let d : at + step * (i + 3) ≡ at + step * i + step + step + step = omega arith in
    test_four (λ k. ltb (get_or s (at + step * k) 0) limit) n i t l
    (lt-ltb _ _ f.first) (rw b (lt-ltb _ _ f.second)) (rw c (lt-ltb _ _ f.third)) (rw d (lt-ltb _ _ f.fourth))
