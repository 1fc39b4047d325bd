-- The number in eight bytes, byte by byte; and the places that are still to be read.
use Prim.Native.Nat.{ℕ, suc, ◌+◌, ◌*◌, ◌<◌, ◌≤◌}
use mathlib.Core.Path.{◌≡◌, refl, ap}
use mathlib.Core.Bool.{Bool, true, false, cond}
use mathlib.Core.List.{List}
use native.Mathlib.Omega.{arith}
use borrow.Author.Tests.{le-leb, lt-leb}
use lib.Dec.{eqb}
use mir.Val.{bool_byte}
use lib.ListN.{length, get_or, drop}
use lib.Seq.{drop-cons, drop-length}
use Rattle.wire.specs.Word.{word}
use Rattle.reads.specs.Equal.{hit_at, equal}

pub eight : (s : List ℕ) (at : ℕ) → word 8 s at ≡ get_or s at 0 + 256 * get_or s (at + 1) 0 + 65536 * get_or s (at + 2) 0 + 16777216 * get_or s (at + 3) 0 +
    4294967296 * get_or s (at + 4) 0 + 1099511627776 * get_or s (at + 5) 0 + 281474976710656 * get_or s (at + 6) 0 + 72057594037927936 * get_or s (at + 7) 0
unfolding word
eight s at =
    let p2 : at + 1 + 1 ≡ at + 2 = omega arith in
    let p3 : at + 2 + 1 ≡ at + 3 = omega arith in
    let p4 : at + 3 + 1 ≡ at + 4 = omega arith in
    let p5 : at + 4 + 1 ≡ at + 5 = omega arith in
    let p6 : at + 5 + 1 ≡ at + 6 = omega arith in
    let p7 : at + 6 + 1 ≡ at + 7 = omega arith in
    rw (p2, p3, p4, p5, p6, p7) (omega arith)

one_or_none : (b : Bool) → bool_byte b ≡ cond b 1 0
one_or_none true = refl
one_or_none false = refl

pub one_at_most : (b : Bool) → bool_byte b ≤ 1
one_at_most true = omega arith
one_at_most false = omega arith

-- one place
module _ (s : List ℕ) (number at : ℕ) where
  pub hit_past : length s < at + 8 → 0 ≡ hit_at s number at
  unfolding hit_at
  hit_past h = rw (lt-leb (at + 8) (length s) h)

  pub hit_here : at + 8 ≤ length s → bool_byte (eqb (word 8 s at) number) ≡ hit_at s number at
  unfolding hit_at
  hit_here i = rw (le-leb (at + 8) (length s) i) (one_or_none (eqb (word 8 s at) number))

-- so many have been found among the first i places
pub record Counting (s : List ℕ) (number : ℕ) (places : List ℕ) (found i : ℕ) : Type 0 where
  pub so_far : found + equal s number (drop i places) ≡ equal s number places
  pub most : found ≤ i
  pub inside : i ≤ length places

module _ (s : List ℕ) (number : ℕ) (places : List ℕ) where
  pub counting_start : Counting s number places 0 0
  counting_start = record { so_far = omega arith; most = omega arith; inside = omega arith }

  module _ (found i : ℕ) (c : Counting s number places found i) where
    pub counting_on : i < length places → (n : ℕ) → n ≡ hit_at s number (get_or places i 0) → n ≤ 1 → Counting s number places (found + n) (i + 1)
    unfolding equal
    counting_on l n e m =
        let o : equal s number (drop i places) ≡ n + equal s number (drop (suc i) places) = rw (drop-cons places i 0 l, e) in
        let z : suc i ≡ i + 1 = omega arith in
        let q : equal s number (drop (suc i) places) ≡ equal s number (drop (i + 1) places) = ap (λ (k : ℕ). equal s number (drop k places)) z in
        let f = c.so_far in
        let g = c.most in
        record { so_far = omega arith; most = omega arith; inside = omega arith }

    pub counting_end : length places ≤ i → found ≡ equal s number places
    unfolding equal
    counting_end h =
        let z : i ≡ length places = let k = c.inside in omega arith in
        let d : equal s number (drop i places) ≡ 0 = rw (z, drop-length) in
        let f = c.so_far in
        omega arith
