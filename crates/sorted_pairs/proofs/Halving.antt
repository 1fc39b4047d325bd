-- What std's search tells of pairs that rise, and what that tells of a pair's place.
use Prim.Native.Nat.{ℕ, zero, suc, ◌+◌, ◌*◌, ◌-◌, ◌/◌, ◌≤◌, ◌<◌}
use mathlib.Core.Path.{◌≡◌, refl, sym, ap, ◌∙◌}
use mathlib.Core.Bool.{Bool, true, false, ◌&&◌, ◌||◌}
use mathlib.Core.List.{List, []}
use native.Mathlib.Omega.{arith}
use native.Mathlib.Decide.{dec_lt, ℕ_discrete}
use borrow.Author.Tests.{eq-eqb, ne_eqb, ltb-true, ltb-false, lt-ltb, le-ltb}
use lib.Dec.{eqb, ltb}
use lib.ListN.{length, get_or, take, drop}
use lib.Seq.{get_or-take, get_or-drop, drop-drop, length-take-le}
use Rattle.std.specs.Simd.{first_chunks}
use Rattle.std.specs.List.Sorted.{IsPartitionPoint, IsPartitionedBy}
use Rattle.sorted_pairs.specs.Pairs.{first_at, second_at, rank_at, Rising, LowerBy, Placed}

-- no value is above a later one
abbrev Climb : (ℕ → ℕ) → ℕ → Type 0
Climb f n = (i j : ℕ) → i < j → j < n → f i ≤ f j

pub rising_climb : (xs : List ℕ) (n : ℕ) → Rising xs n → Climb (rank_at xs) n
rising_climb xs n r i j l m = let z : i + (j - i) ≡ j = omega arith in rw z at (go (j - i) (omega arith))
  where
    go : (d : ℕ) → i + d < n → rank_at xs i ≤ rank_at xs (i + d)
    go zero k = let z : i + 0 ≡ i = omega arith in rw z (omega arith)
    go (suc d) k =
        let h = go d (omega arith) in
        let o = r.order (i + d) (omega arith) in
        let z : i + suc d ≡ i + d + 1 = omega arith in
        rw z (omega arith)

-- The search: the rows of two numbers, each before (a, b) or not, and what std tells of them.

abbrev pub before_pair : ℕ → ℕ → List ℕ → Bool
before_pair a b row = ltb (get_or row 0 0) a || (eqb (get_or row 0 0) a && ltb (get_or row 1 0) b)

by_rank : (c d a b : ℕ) → d < 18446744073709551616 → b < 18446744073709551616
    → (ltb c a || (eqb c a && ltb d b)) ≡ ltb (c * 18446744073709551616 + d) (a * 18446744073709551616 + b)
by_rank c d a b h k = go (dec_lt c a) (ℕ_discrete c a) (dec_lt d b)
  where
    go : Dec (c < a) → Dec (c ≡ a) → Dec (d < b) → (ltb c a || (eqb c a && ltb d b)) ≡ ltb (c * 18446744073709551616 + d) (a * 18446744073709551616 + b)
    go (yes l) m n = rw (lt-ltb c a l) (sym (lt-ltb _ _ (omega arith)))
    go (no l) (no m) n = rw (le-ltb c a (omega arith), ne_eqb c a m) (sym (le-ltb _ _ (omega (arith, m))))
    go (no l) (yes m) (yes n) = rw (le-ltb c a (omega arith), eq-eqb c a m, lt-ltb d b n) (sym (lt-ltb _ _ (omega arith)))
    go (no l) (yes m) (no n) = rw (le-ltb c a (omega arith), eq-eqb c a m, le-ltb d b (omega arith)) (sym (le-ltb _ _ (omega arith)))

row_at : (n k : ℕ) (xs : List ℕ) (d : List ℕ) → k < n → get_or (first_chunks 2 n xs) k d ≡ take 2 (drop (2 * k) xs)
row_at zero k xs d h = absurd (omega arith)
row_at (suc n) zero xs d h = refl
row_at (suc n) (suc k) xs d h =
    let e : 2 * suc k ≡ 2 + 2 * k = omega arith in
    rw (e, ← drop-drop (2 * k) 2 xs) (row_at n k (drop 2 xs) d (omega arith))

module _ (xs : List ℕ) (n a b : ℕ) (l : 2 * n ≤ length xs) (u : Rising xs n) (w : b < 18446744073709551616) (v : (i : ℕ) → get_or xs i 0 < 18446744073709551616) where
  module _ (rows : List (List ℕ)) (f : rows ≡ first_chunks 2 (length (take (2 * n) xs) / 2) (take (2 * n) xs)) (g : length rows ≡ length (take (2 * n) xs) / 2) where
    many : length rows ≡ n
    many = omega (arith, g, length-take-le (2 * n) xs l)

    test : (k : ℕ) (d : List ℕ) → k < n → before_pair a b (get_or rows k d) ≡ ltb (rank_at xs k) (a * 18446744073709551616 + b)
    test k d h =
        let m : length (take (2 * n) xs) / 2 ≡ n = omega (arith, length-take-le (2 * n) xs l) in
        let z : 2 * k + 0 ≡ 2 * k = omega arith in
        let e : get_or rows k d ≡ take 2 (drop (2 * k) (take (2 * n) xs)) = rw (f, m) (row_at n k (take (2 * n) xs) d h) in
        let p : get_or (take 2 (drop (2 * k) (take (2 * n) xs))) 0 0 ≡ first_at xs k =
        get_or-take 2 (drop (2 * k) (take (2 * n) xs)) 0 0 (omega arith) ∙ get_or-drop (2 * k) (take (2 * n) xs) 0 0 ∙ get_or-take (2 * n) xs (2 * k + 0) 0 (omega arith)
        ∙ ap (λ (i : ℕ). get_or xs i 0) z in
        let q : get_or (take 2 (drop (2 * k) (take (2 * n) xs))) 1 0 ≡ second_at xs k =
        get_or-take 2 (drop (2 * k) (take (2 * n) xs)) 1 0 (omega arith) ∙ get_or-drop (2 * k) (take (2 * n) xs) 1 0 ∙ get_or-take (2 * n) xs (2 * k + 1) 0 (omega arith) in
        rw (e, p, q) (by_rank (first_at xs k) (second_at xs k) a b (v (2 * k + 1)) w)

    pub rows_parted : IsPartitionedBy (before_pair a b) rows
    rows_parted i j d h m t = go (dec_lt i j)
      where
        go : Dec (i < j) → before_pair a b (get_or rows i d) ≡ true
        go (yes k) =
            let x = ltb-true _ _ (sym (test j d (omega (arith, many))) ∙ t) in
            test i d (omega (arith, many)) ∙ lt-ltb _ _ (omega (arith, rising_climb xs n u i j k (omega (arith, many))))
        go (no k) = let z : i ≡ j = omega arith in rw z t

    pub rows_bound : (r : ℕ) → r ≤ length rows → IsPartitionPoint (λ y. before_pair a b y ≡ true) (λ y. before_pair a b y ≡ false) rows r
        → LowerBy (rank_at xs) n (a * 18446744073709551616 + b) r
    rows_bound r h p =
        record {
          most = omega (arith, many);
          below = λ k m. ltb-true _ _ (sym (test k [] (omega (arith, many))) ∙ p.0 k [] (omega arith) m);
          above = λ k m i. ltb-false _ _ (sym (test k [] i) ∙ p.1 k [] m (omega (arith, many)));
        }

-- The place of a pair.

module _ (xs : List ℕ) (n a b : ℕ) where
  -- a pair that is there stands at its lower bound
  bound_there : (r : ℕ) → Rising xs n → LowerBy (rank_at xs) n (a * 18446744073709551616 + b) r → (i : ℕ) → i < n → first_at xs i ≡ a → second_at xs i ≡ b → r ≡ i
  bound_there r u l i m p q = go (dec_lt i r) (dec_lt r i)
    where
      e : rank_at xs i ≡ a * 18446744073709551616 + b
      e = omega arith

      go : Dec (i < r) → Dec (r < i) → r ≡ i
      go (yes h) d = absurd (omega (arith, l.below i h, e))
      go (no h) (yes d) =
          let v = l.above r (omega arith) (omega arith) in
          let w = u.order r (omega arith) in
          let c = climb r (dec_lt (r + 1) i) d in
          absurd (omega (arith, e))
        where
          climb : (k : ℕ) → Dec (k + 1 < i) → k < i → rank_at xs (k + 1) ≤ rank_at xs i
          climb k (yes f) g = rising_climb xs n u (k + 1) i f m
          climb k (no f) g = let z : k + 1 ≡ i = omega arith in rw z (omega arith)
      go (no h) (no d) = omega arith

  pub placed-none : (r : ℕ) → Rising xs n → LowerBy (rank_at xs) n (a * 18446744073709551616 + b) r
      → (r < n → (eqb (first_at xs r) a && eqb (second_at xs r) b) ≡ false) → (q : ℕ) → q ≡ n → Placed xs n a b q
  placed-none r u l f q z = record { most = omega arith; here = λ m. absurd (omega arith); none = λ _ i m p s. go i m p s (bound_there r u l i m p s) }
    where
      go : (i : ℕ) → i < n → first_at xs i ≡ a → second_at xs i ≡ b → r ≡ i → ⊥
      go i m p s e =
          let h = f (omega arith) in
          let t : (eqb (first_at xs r) a && eqb (second_at xs r) b) ≡ true = rw (e, eq-eqb _ _ p, eq-eqb _ _ s) in
          let w : ◌≡◌ {A = ℕ} 0 1 = cc in
          omega arith
