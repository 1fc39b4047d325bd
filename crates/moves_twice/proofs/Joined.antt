-- The joined table: what it finds, and that it passes 14 where both tables do.
use Prim.Native.Nat.{ℕ, zero, suc, ◌+◌, ◌^◌, ◌≤◌, ◌<◌}
use mathlib.Core.Path.{◌≡◌, refl, sym, ap, ◌∙◌}
use mathlib.Core.Bool.{Bool, true, false, cond, ◌&&◌, true≢false}
use mathlib.Core.Option.{Option, none, some}
use mathlib.Core.List.{List, [], ◌∷◌}
use native.Mathlib.Omega.{arith}
use borrow.Author.Tests.{eqb-true, eq-eqb, ne_eqb, ltb-true, lt-ltb, le-leb, leb-true}
use lib.Dec.{eqb, ltb, leb}
use lib.ListN.{length, get_or, drop}
use lib.Seq.{get_or-drop}
use Rattle.moves.specs.Limits.{table_most}
use Rattle.moves.specs.Pointers.{or_zero}
use Rattle.moves.specs.Table.{rising, no_zero, table_right, found, look_up}
use Rattle.moves_twice.specs.Joined.{Table, listed, joined}
use Rattle.moves_twice.specs.Pointers.{and_then, Words}

and_true : (a b : Bool) → (a && b) ≡ true → (a ≡ true) × (b ≡ true)
and_true true b h = (refl, h)
and_true false b h = absurd (true≢false (sym h))

-- the four parts of 14
pub record Right (olds news : List ℕ) : Type 0 where
  pub lengths : length olds ≡ length news
  pub most : length olds ≤ table_most
  pub rises : rising 0 olds ≡ true
  pub nonzero : no_zero news ≡ true

pub right_parts : (olds news : List ℕ) → table_right olds news ≡ true → Right olds news
unfolding table_right
right_parts olds news h =
    let a = and_true (eqb (length olds) (length news)) (leb (length olds) table_most && (rising 0 olds && no_zero news)) h in
    let b = and_true (leb (length olds) table_most) (rising 0 olds && no_zero news) a.1 in
    let c = and_true (rising 0 olds) (no_zero news) b.1 in
    record { lengths = eqb-true _ _ a.0; most = leb-true _ _ b.0; rises = c.0; nonzero = c.1 }

pub parts_right : (olds news : List ℕ) → Right olds news → table_right olds news ≡ true
unfolding table_right
parts_right olds news r = rw (eq-eqb _ _ r.lengths, le-leb _ _ r.most, r.rises, r.nonzero)

-- What a table finds.

-- an address at or below all old starts is none of them
below_none : (os ns : List ℕ) (before b : ℕ) → rising before os ≡ true → b ≤ before → found os ns b ≡ none
unfolding rising
below_none [] ns before b h l = refl
below_none (o ∷ os) ns before b h l =
    let r = and_true (ltb before o) (rising o os) h in
    let q : before < o = ltb-true before o r.0 in
    rw (ne_eqb o b (omega arith)) (below_none os (drop 1 ns) o b r.1 (omega arith))

tail_words : (ns : List ℕ) → Words ns → Words (drop 1 ns)
tail_words ns w = record { below = λ i. rw (get_or-drop 1 ns i 0) (w.below (1 + i)) }

found_word : (os ns : List ℕ) (b : ℕ) → Words ns → or_zero (found os ns b) < 2 ^ 64
found_word [] ns b w = omega arith
found_word (o ∷ os) ns b w = go (eqb o b) (found_word os (drop 1 ns) b (tail_words ns w))
  where
    go : (t : Bool) → or_zero (found os (drop 1 ns) b) < 2 ^ 64 → or_zero (cond t (some (get_or ns 0 0)) (found os (drop 1 ns) b)) < 2 ^ 64
    go true h = w.below 0
    go false h = h

-- a new start is a 64-bit number
pub look-word : (olds news : List ℕ) (b : ℕ) → Words news → or_zero (look_up olds news b) < 2 ^ 64
unfolding look_up
look-word olds news b w = go (eqb b 0)
  where
    go : (t : Bool) → or_zero (cond t (some 0) (found olds news b)) < 2 ^ 64
    go true = omega arith
    go false = found_word olds news b w

-- no entry of a right table is 0
Nonzero : Option ℕ → Type 0
Nonzero o = (n : ℕ) → o ≡ some n → 0 < n

found_nonzero : (os ns : List ℕ) (b : ℕ) → length os ≡ length ns → no_zero ns ≡ true → Nonzero (found os ns b)
unfolding Nonzero no_zero
found_nonzero [] ns b e h n q = let z : ◌≡◌ {A = ℕ} 0 1 = cc in omega arith
found_nonzero (o ∷ os) [] b e h n q = absurd (omega arith)
found_nonzero (o ∷ os) (m ∷ ns) b e h n q = go (eqb o b) (found_nonzero os ns b (omega arith) r.1 n) q
  where
    r : (ltb 0 m ≡ true) × (no_zero ns ≡ true)
    r = and_true (ltb 0 m) (no_zero ns) h

    go : (t : Bool) → (found os ns b ≡ some n → 0 < n) → cond t (some m) (found os ns b) ≡ some n → 0 < n
    go true below q = let e : m ≡ n = cc in omega (arith, ltb-true 0 m r.0)
    go false below q = below q

-- What the joined table finds.

module _ (olds2 news2 : List ℕ) where
  found-joined : (os ns : List ℕ) (before b : ℕ) → rising before os ≡ true
      → found (joined os ns olds2 news2).olds (joined os ns olds2 news2).news b ≡ and_then (found os ns b) (found olds2 news2)
  unfolding rising
  found-joined [] ns before b h = refl
  found-joined (o ∷ os) ns before b h =
      go (eqb o b) refl (found olds2 news2 (get_or ns 0 0)) refl (found-joined os (drop 1 ns) o b r.1)
    where
      r : (ltb before o ≡ true) × (rising o os ≡ true)
      r = and_true (ltb before o) (rising o os) h

      rest : Table
      rest = joined os (drop 1 ns) olds2 news2

      go : (t : Bool) → eqb o b ≡ t → (m : Option ℕ) → found olds2 news2 (get_or ns 0 0) ≡ m
          → found rest.olds rest.news b ≡ and_then (found os (drop 1 ns) b) (found olds2 news2)
          → found (listed o m rest).olds (listed o m rest).news b
          ≡ and_then (cond t (some (get_or ns 0 0)) (found os (drop 1 ns) b)) (found olds2 news2)
      go true e (some n) q below = rw (e, q)
      go true e none q below =
          below ∙ rw (q, below_none os (drop 1 ns) o b r.1 (omega (arith, eqb-true o b e)))
      go false e (some n) q below = rw e below
      go false e none q below = below

  joined_fewer : (os ns : List ℕ) → length (joined os ns olds2 news2).olds ≤ length os
  joined_fewer [] ns = omega arith
  joined_fewer (o ∷ os) ns = go (found olds2 news2 (get_or ns 0 0)) (joined_fewer os (drop 1 ns))
    where
      go : (m : Option ℕ) → length (joined os (drop 1 ns) olds2 news2).olds ≤ length os
          → length (listed o m (joined os (drop 1 ns) olds2 news2)).olds ≤ suc (length os)
      go none h = omega arith
      go (some n) h = omega arith

  joined_lengths : (os ns : List ℕ) → length (joined os ns olds2 news2).olds ≡ length (joined os ns olds2 news2).news
  joined_lengths [] ns = refl
  joined_lengths (o ∷ os) ns = go (found olds2 news2 (get_or ns 0 0)) (joined_lengths os (drop 1 ns))
    where
      rest : Table
      rest = joined os (drop 1 ns) olds2 news2

      go : (m : Option ℕ) → length rest.olds ≡ length rest.news → length (listed o m rest).olds ≡ length (listed o m rest).news
      go none h = h
      go (some n) h = ap suc h

  rising-lower : (a b : ℕ) (os : List ℕ) → a ≤ b → rising b os ≡ true → rising a os ≡ true
  unfolding rising
  rising-lower a b [] l h = refl
  rising-lower a b (o ∷ os) l h =
      let r = and_true (ltb b o) (rising o os) h in
      rw (lt-ltb a o (omega (arith, ltb-true b o r.0)), r.1)

  joined-rises : (os ns : List ℕ) (before : ℕ) → rising before os ≡ true → rising before (joined os ns olds2 news2).olds ≡ true
  unfolding rising
  joined-rises [] ns before h = refl
  joined-rises (o ∷ os) ns before h = go (found olds2 news2 (get_or ns 0 0)) (joined-rises os (drop 1 ns) o r.1)
    where
      r : (ltb before o ≡ true) × (rising o os ≡ true)
      r = and_true (ltb before o) (rising o os) h

      rest : Table
      rest = joined os (drop 1 ns) olds2 news2

      go : (m : Option ℕ) → rising o rest.olds ≡ true → rising before (listed o m rest).olds ≡ true
      go none below = rising-lower before o rest.olds (omega (arith, ltb-true before o r.0)) below
      go (some n) below = rw r.0 below

  joined_nonzero : length olds2 ≡ length news2 → no_zero news2 ≡ true → (os ns : List ℕ) → no_zero (joined os ns olds2 news2).news ≡ true
  unfolding no_zero Nonzero
  joined_nonzero l z [] ns = refl
  joined_nonzero l z (o ∷ os) ns = go (found olds2 news2 (get_or ns 0 0)) refl (joined_nonzero l z os (drop 1 ns))
    where
      rest : Table
      rest = joined os (drop 1 ns) olds2 news2

      go : (m : Option ℕ) → found olds2 news2 (get_or ns 0 0) ≡ m → no_zero rest.news ≡ true → no_zero (listed o m rest).news ≡ true
      go none e below = below
      go (some n) e below = rw (lt-ltb 0 n (found_nonzero olds2 news2 (get_or ns 0 0) l z n e)) below

-- a number in front of 64-bit numbers
more_words : (a : ℕ) (s : List ℕ) → a < 2 ^ 64 → Words s → Words (a ∷ s)
more_words a s h w = record { below = go }
  where
    go : (i : ℕ) → get_or (a ∷ s) i 0 < 2 ^ 64
    go zero = h
    go (suc i) = w.below i

-- the joined table is one of 64-bit numbers
pub joined_words : (olds2 news2 os ns : List ℕ) → Words os → Words news2
    → Words (joined os ns olds2 news2).olds × Words (joined os ns olds2 news2).news
joined_words olds2 news2 [] ns v w = (record { below = λ i. omega arith }, record { below = λ i. omega arith })
joined_words olds2 news2 (o ∷ os) ns v w = go (found olds2 news2 (get_or ns 0 0)) (found_word olds2 news2 (get_or ns 0 0) w) (joined_words olds2 news2 os (drop 1 ns) (tail_words (o ∷ os) v) w)
  where
    rest : Table
    rest = joined os (drop 1 ns) olds2 news2

    go : (m : Option ℕ) → or_zero m < 2 ^ 64 → Words rest.olds × Words rest.news → Words (listed o m rest).olds × Words (listed o m rest).news
    go none h below = below
    go (some n) h below = (more_words o rest.olds (v.below 0) below.0, more_words n rest.news h below.1)

module _ (olds news olds2 news2 : List ℕ) (r : table_right olds news ≡ true) where
  first : Right olds news
  first = right_parts olds news r

  -- where both tables pass 14 the joined one does
  pub joined-right : table_right olds2 news2 ≡ true → table_right (joined olds news olds2 news2).olds (joined olds news olds2 news2).news ≡ true
  joined-right s =
      let second = right_parts olds2 news2 s in
      parts_right _ _ (record {
        lengths = joined_lengths olds2 news2 olds news;
        most = omega (arith, joined_fewer olds2 news2 olds news, first.most);
        rises = joined-rises olds2 news2 olds news 0 first.rises;
        nonzero = joined_nonzero olds2 news2 second.lengths second.nonzero olds news;
      })

  -- 0 for 0; else the second table's new start for the first table's, if both are there
  pub joined_zero : look_up (joined olds news olds2 news2).olds (joined olds news olds2 news2).news 0 ≡ some 0
  unfolding look_up
  joined_zero = refl

  pub joined-look : (b : ℕ) → look_up (joined olds news olds2 news2).olds (joined olds news olds2 news2).news b ≡ and_then (look_up olds news b) (look_up olds2 news2)
  unfolding look_up Nonzero
  joined-look b = go (eqb b 0)
    where
      t : Table
      t = joined olds news olds2 news2

      after : (m : Option ℕ) → ((n : ℕ) → m ≡ some n → 0 < n) → and_then m (found olds2 news2) ≡ and_then m (λ n. cond (eqb n 0) (some 0) (found olds2 news2 n))
      after none h = refl
      after (some n) h = let p : 0 < n = h n refl in rw (ne_eqb n 0 (omega arith))

      go : (z : Bool) → cond z (some 0) (found t.olds t.news b) ≡ and_then (cond z (some 0) (found olds news b)) (λ n. cond (eqb n 0) (some 0) (found olds2 news2 n))
      go true = refl
      go false = found-joined olds2 news2 olds news 0 b first.rises ∙ after (found olds news b) (found_nonzero olds news b first.lengths first.nonzero)
