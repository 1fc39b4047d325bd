-- Steps of the folds over an array, and what a test of every item tells.
use Prim.Native.Nat.{ℕ, zero, suc, ◌+◌, ◌-◌, ◌≤◌, ◌<◌, max}
use mathlib.Core.Path.{◌≡◌, refl, sym, ap, ◌∙◌}
use mathlib.Core.Bool.{Bool, true, false, ◌&&◌, true≢false}
use native.Mathlib.Omega.{arith}
use native.Mathlib.Numerals.{add-one}
use native.Mathlib.Decide.{ℕ_discrete}
use Rattle.flat.specs.Places.{greatest, every}
use Rattle.flat.specs.Steps.{Testing}

pub and_true : (a b : Bool) → (a && b) ≡ true → (a ≡ true) × (b ≡ true)
and_true true b h = (refl, h)
and_true false b h = absurd (true≢false (sym h))

-- The greatest.

greatest_step : (f : ℕ → ℕ) (i n : ℕ) → 0 < n → greatest f i n ≡ max (f i) (greatest f (i + 1) (n - 1))
unfolding greatest
greatest_step f i zero l = absurd (omega arith)
greatest_step f i (suc n) l =
    let k : i + 1 ≡ suc i = omega arith in
    let m : suc n - 1 ≡ n = omega arith in
    rw (k, m)

pub greatest-none : (f : ℕ → ℕ) (i n : ℕ) → n ≡ 0 → greatest f i n ≡ 0
unfolding greatest
greatest-none f i n e = rw e

-- one value more is taken up
pub greatest_on : (f : ℕ → ℕ) (i n m v w all : ℕ) → i < n → all ≡ max m (greatest f i (n - i)) → v ≡ f i → w ≡ max m v
    → all ≡ max w (greatest f (i + 1) (n - (i + 1)))
greatest_on f i n m v w all l h e k =
    let z : n - i - 1 ≡ n - (i + 1) = omega arith in
    let g = rw z at (greatest_step f i (n - i) (omega arith)) in
    omega arith

-- A test of every item.

every_step : (p : ℕ → Bool) (i n : ℕ) → i < n → every p i (n - i) ≡ (p i && every p (i + 1) (n - (i + 1)))
unfolding every
every_step p i n l =
    let k : n - i ≡ suc (n - (i + 1)) = omega arith in
    rw (k, add-one)

pub test_on : (p : ℕ → Bool) (n i : ℕ) → Testing p n i → i < n → p i ≡ true → Testing p n (i + 1)
test_on p n i t l e = record { most = omega arith; same = t.same ∙ every_step p i n l ∙ rw e }

pub every-told : (p : ℕ → Bool) (i n : ℕ) → every p i n ≡ true → (j : ℕ) → i ≤ j → j < i + n → p j ≡ true
unfolding every
every-told p i zero h j l m = absurd (omega arith)
every-told p i (suc n) h j l m = go (λ k. every-told p (suc i) n (and_true (p i) (every p (suc i) n) h).1 j k (omega arith)) (ℕ_discrete i j)
  where
    go : (suc i ≤ j → p j ≡ true) → Dec (i ≡ j) → p j ≡ true
    go rest (yes e) = rw e at (and_true (p i) (every p (suc i) n) h).0
    go rest (no f) = rest (omega arith)

-- two tests of every item are one
pub every-both : (p q : ℕ → Bool) (i n : ℕ) → (every p i n && every q i n) ≡ every (λ k. p k && q k) i n
unfolding every
every-both p q i zero = refl
every-both p q i (suc n) = crossed (p i) (every p (suc i) n) (q i) (every q (suc i) n) ∙ ap (λ (b : Bool). (p i && q i) && b) (every-both p q (suc i) n)
  where
    crossed : (a b c d : Bool) → ((a && b) && (c && d)) ≡ ((a && c) && (b && d))
    crossed true true c d = truth c d
      where
        truth : (c d : Bool) → (c && d) ≡ (c && d)
        truth c d = refl
    crossed true false true d = refl
    crossed true false false d = refl
    crossed false b c d = refl

pub test_four : (p : ℕ → Bool) (n i : ℕ) → Testing p n i → i + 4 ≤ n → p i ≡ true → p (i + 1) ≡ true → p (i + 2) ≡ true → p (i + 3) ≡ true → Testing p n (i + 4)
test_four p n i t l a b c d =
    let x : i + 1 + 1 ≡ i + 2 = omega arith in
    let y : i + 2 + 1 ≡ i + 3 = omega arith in
    let z : i + 3 + 1 ≡ i + 4 = omega arith in
    let u = test_on p n i t (omega arith) a in
    let v = rw x at (test_on p n (i + 1) u (omega arith) b) in
    let w = rw y at (test_on p n (i + 2) v (omega arith) c) in
    rw z at (test_on p n (i + 3) w (omega arith) d)
