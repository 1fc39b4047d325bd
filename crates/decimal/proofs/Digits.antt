-- Decimal digits.
use Prim.Native.Nat.{ℕ, zero, suc, ◌+◌, ◌*◌, ◌-◌, ◌/◌, ◌%◌, ◌^◌, ◌≤◌, ◌<◌}
use mathlib.Core.Path.{◌≡◌, refl}
use mathlib.Core.Bool.{Bool, true, false, cond}
use mathlib.Core.List.{List, [], ◌∷◌, ◌++◌}
use native.Mathlib.Omega.{arith}
use native.Mathlib.Nat.{add-zero, pow-suc}
use borrow.Author.Tests.{lt-ltb, le-ltb}
use lib.Dec.{ltb}
use lib.ListN.{length, set, length-append}
use lib.Seq.{sets, drop-drop}
use borrow.Rule.Slice.PartMut.{put_mid}
use Rattle.std.proofs.lemmas.List.{append_assoc}
use Rattle.std.proofs.lemmas.List.Edits.{sets-eq}
use Rattle.wire.proofs.Laws.{sets-append}
use Rattle.decimal.specs.Line.{digits}

pub digits_last : (k n : ℕ) → 0 < k → n < 10 → digits k n ≡ (48 + n) ∷ []
unfolding digits
digits_last zero n h l = absurd (omega arith)
digits_last (suc k) n h l = rw (lt-ltb _ _ l)

pub digits_more : (k n : ℕ) → 0 < k → 10 ≤ n → digits k n ≡ digits (k - 1) (n / 10) ++ ((48 + n % 10) ∷ [])
unfolding digits
digits_more zero n h l = absurd (omega arith)
digits_more (suc k) n h l = let b : suc k - 1 ≡ k = omega arith in rw (le-ltb _ _ l, b)

-- a number with more than one digit
pub shorter : (k n : ℕ) → 0 < k → 10 ≤ n → n < 10 ^ k → (0 < k - 1) × (n / 10 < 10 ^ (k - 1))
shorter zero n h l p = absurd (omega arith)
shorter (suc zero) n h l p = absurd (omega arith)
shorter (suc (suc k)) n h l p =
    let b : suc (suc k) - 1 ≡ suc k = omega arith in
    let q : n < 10 ^ suc k * 10 = rw pow-suc at p in
    rw b (omega arith, omega arith)

pub digits-length : (k n : ℕ) → length (digits k n) ≤ k
unfolding digits
digits-length zero n = omega arith
digits-length (suc k) n = go (ltb n 10) refl (digits-length k (n / 10))
  where
    go : (b : Bool) → ltb n 10 ≡ b → length (digits k (n / 10)) ≤ k
        → length (cond (ltb n 10) ((48 + n) ∷ []) (digits k (n / 10) ++ ((48 + n % 10) ∷ []))) ≤ suc k
    go true e h = rw e (omega arith)
    go false e h = rw e (omega (arith, length-append (digits k (n / 10)) ((48 + n % 10) ∷ [])))

-- one stretch of stores and then one more
pub sets_last : (xs l : List ℕ) (i y : ℕ) → sets l i (xs ++ (y ∷ [])) ≡ set (sets l i xs) (i + length xs) y
sets_last [] l i y = rw add-zero
sets_last (x ∷ xs) l i y =
    let p : suc i + length xs ≡ i + suc (length xs) = omega arith in
    rw p at (sets_last xs (set l i x) (suc i) y)

-- a text put in the place of as many bytes
pub part_sets : (text l : List ℕ) (at : ℕ) → at + length text ≤ length l → put_mid at (at + length text - at) l text ≡ sets l at text
part_sets text l at h =
    let p : at + length text - at ≡ length text = omega arith in
    rw (sets-eq text l at h, append_assoc, p, drop-drop)

-- four stretches of stores and one more byte
pub line-put : (l t d a e : List ℕ) (y n p q r : ℕ) → n ≡ 0 + length t → p ≡ n + length d → q ≡ p + length a → r ≡ q + length e
    → (set (sets (sets (sets (sets l 0 t) n d) p a) q e) r y ≡ sets l 0 (t ++ d ++ a ++ e ++ (y ∷ [])))
    × (r + 1 ≡ length (t ++ d ++ a ++ e ++ (y ∷ [])))
line-put l t d a e y n p q r hn hp hq hr =
    let n₁ = length-append t d in
    let n₂ = length-append (t ++ d) a in
    let n₃ = length-append (t ++ d ++ a) e in
    let n₄ = length-append (t ++ d ++ a ++ e) (y ∷ []) in
    let i₁ : 0 + length (t ++ d) ≡ p = omega arith in
    let i₂ : 0 + length (t ++ d ++ a) ≡ q = omega arith in
    let i₃ : 0 + length (t ++ d ++ a ++ e) ≡ r = omega arith in
    (rw (sets-append l 0 (t ++ d ++ a ++ e) (y ∷ []), i₃, sets-append l 0 (t ++ d ++ a) e, i₂, sets-append l 0 (t ++ d) a, i₁, sets-append l 0 t d, hn), omega arith)
