-- The move table: what the test of refusal 14 tells, and that a lower bound finds what the table's definition finds.
use Rattle.std.proofs.Common.{◌≡◌, ℕ, zero, suc, ◌+◌, ◌<◌, ◌≤◌, Bool, true, false, ◌&&◌, eqb, ltb, leb, List, [], ◌∷◌, length, get_or, drop, sym, refl, ap, ◌∙◌, true≢false, not-suc-le-zero, add-one, arith, drop_of_length-le, get_or-drop, drop-cons, ltb-true, le-ltb, lt-ltb, eq-eqb, ne_eqb, eqb-true}
use Rattle.std.proofs.Common.{not, nat_eq}
use Rattle.std.specs.List.{list_any}
use mathlib.Core.Option.{none, some}
use native.Mathlib.Decide.{dec_lt}
use Rattle.moves.specs.Limits.{table_most}
use Rattle.moves.specs.Table.{rising, no_zero, table_right, found, look_up}

and_true : (a b : Bool) → (a && b) ≡ true → (a ≡ true) × (b ≡ true)
and_true true b h = (refl, h)
and_true false b h = absurd (true≢false (sym h))

-- The test.

pub rising-end : (last i : ℕ) (os : List ℕ) → length os ≤ i → rising last (drop i os) ≡ true
unfolding rising
rising-end last i os h = rw (drop_of_length-le os {i = i} h)

pub rising_stop : (last i : ℕ) (os : List ℕ) → i < length os → get_or os i 0 ≤ last → rising last (drop i os) ≡ false
unfolding rising
rising_stop last i os h l = rw (drop-cons os i 0 h, le-ltb last (get_or os i 0) l)

pub rising_on : (last i : ℕ) (os : List ℕ) → i < length os → last < get_or os i 0 → rising last (drop i os) ≡ rising (get_or os i 0) (drop (i + 1) os)
unfolding rising
rising_on last i os h l = rw (drop-cons os i 0 h, lt-ltb last (get_or os i 0) l, add-one i)

-- no zero is there exactly where a search for one finds none
pub no_zero-contains : (ns : List ℕ) → not (list_any (λ n. nat_eq n 0) ns) ≡ no_zero ns
unfolding no_zero
no_zero-contains [] = refl
no_zero-contains (zero ∷ ns) = refl
no_zero-contains (suc n ∷ ns) =
    rw (ne_eqb (suc n) 0 (omega arith), lt-ltb 0 (suc n) (omega arith)) (no_zero-contains ns)

-- What it tells.

pub same_lengths : (olds news : List ℕ) → table_right olds news ≡ true → length olds ≡ length news
unfolding table_right
same_lengths olds news h =
    eqb-true _ _ (and_true (eqb (length olds) (length news)) (leb (length olds) table_most && (rising 0 olds && no_zero news)) h).0

above : (before : ℕ) (os : List ℕ) → rising before os ≡ true → (k : ℕ) → k < length os → before < get_or os k 0
unfolding rising
above before [] h k l = absurd (not-suc-le-zero l)
above before (o ∷ os) h zero l = ltb-true _ _ (and_true (ltb before o) (rising o os) h).0
above before (o ∷ os) h (suc k) l =
    let r = and_true (ltb before o) (rising o os) h in
    omega (arith, ltb-true before o r.0, above o os r.1 k (omega arith))

rises : (before : ℕ) (os : List ℕ) → rising before os ≡ true → (i j : ℕ) → i < j → j < length os → get_or os i 0 < get_or os j 0
unfolding rising
rises before [] h i j a b = absurd (not-suc-le-zero b)
rises before (o ∷ os) h i zero a b = absurd (not-suc-le-zero a)
rises before (o ∷ os) h zero (suc j) a b = above o os (and_true (ltb before o) (rising o os) h).1 j (omega arith)
rises before (o ∷ os) h (suc i) (suc j) a b = rises o os (and_true (ltb before o) (rising o os) h).1 i j (omega arith) (omega arith)

pub old_starts_rise : (olds news : List ℕ) → table_right olds news ≡ true → (i j : ℕ) → i < j → j < length olds → get_or olds i 0 < get_or olds j 0
unfolding table_right
old_starts_rise olds news h =
    let a = leb (length olds) table_most in
    let b = rising 0 olds in
    let c = no_zero news in
    rises 0 olds (and_true b c (and_true a (b && c) (and_true (eqb (length olds) (length news)) (a && (b && c)) h).1).1).0

pub old_starts_sorted : (olds news : List ℕ) → table_right olds news ≡ true → (i j : ℕ) → i ≤ j → j < length olds → get_or olds i 0 ≤ get_or olds j 0
old_starts_sorted olds news h i j l m = go (dec_lt i j)
  where
    go : Dec (i < j) → get_or olds i 0 ≤ get_or olds j 0
    go (yes a) = omega (arith, old_starts_rise olds news h i j a m)
    go (no a) = let e : i ≡ j = omega arith in rw e (omega arith)

-- What the table's definition finds.

found_none : (os ns : List ℕ) (b : ℕ) → ((k : ℕ) → k < length os → get_or os k 0 ≡ b → ⊥) → found os ns b ≡ none
found_none [] ns b h = refl
found_none (o ∷ os) ns b h =
    rw (ne_eqb o b (h 0 (omega arith)), found_none os (drop 1 ns) b (λ k l. h (suc k) (omega arith)))

found_at : (os ns : List ℕ) (b i : ℕ) → i < length os → ((k : ℕ) → k < i → get_or os k 0 ≡ b → ⊥) → get_or os i 0 ≡ b → found os ns b ≡ some (get_or ns i 0)
found_at [] ns b i l h e = absurd (not-suc-le-zero l)
found_at (o ∷ os) ns b zero l h e = rw (eq-eqb o b e)
found_at (o ∷ os) ns b (suc i) l h e =
    let g : get_or (drop 1 ns) i 0 ≡ get_or ns (suc i) 0 = get_or-drop 1 ns i 0 ∙ ap (λ (k : ℕ). get_or ns k 0) (omega arith) in
    rw (ne_eqb o b (h 0 (omega arith)), found_at os (drop 1 ns) b i (omega arith) (λ k q. h (suc k) (omega arith)) e, g)

pub look_zero : (olds news : List ℕ) (b : ℕ) → b ≡ 0 → some 0 ≡ look_up olds news b
unfolding look_up
look_zero olds news b e = rw (eq-eqb b 0 e)

module _ (olds news : List ℕ) (b : ℕ) (n : b ≡ 0 → ⊥) where
  pub look-here : (i : ℕ) → table_right olds news ≡ true → i < length olds → get_or olds i 0 ≡ b → some (get_or news i 0) ≡ look_up olds news b
  unfolding look_up
  look-here i t l e = rw (ne_eqb b 0 n) (sym (found_at olds news b i l (λ k q r. omega (arith, old_starts_rise olds news t k i q l)) e))

  pub look-nowhere : ((k : ℕ) → k < length olds → get_or olds k 0 ≡ b → ⊥) → none ≡ look_up olds news b
  unfolding look_up
  look-nowhere h = rw (ne_eqb b 0 n) (sym (found_none olds news b h))
