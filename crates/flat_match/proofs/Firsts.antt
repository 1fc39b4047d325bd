-- The first of the list of all matches is a match, and none stands before it.
use Prim.Native.Nat.{ℕ, zero, suc, ◌+◌, ◌≤◌, ◌<◌}
use mathlib.Core.Path.{◌≡◌, refl, sym, ◌∙◌}
use mathlib.Core.Bool.{Bool, true, false}
use mathlib.Core.Logic.{inl, inr}
use mathlib.Core.List.{List, ◌++◌}
use native.Mathlib.Omega.{arith}
use native.Mathlib.Decide.{ℕ_discrete}
use borrow.Author.Tests.{eqb-true, eqb-false}
use lib.Dec.{eqb}
use Rattle.flat.specs.Places.{num_frames}
use Rattle.flat_check.specs.Check.{flat_check}
use Rattle.flat_check.proofs.Chain.{ask-accepted}
use Rattle.flat_match.specs.declared.MatchAnswer.{MatchAnswer}
use Rattle.flat_match.specs.Find.{Match, address_of, in_frame, record_index, record_count, in_frames, matches, not_found, first_of, by_address, NotAfter, FirstMatch}
use Rattle.flat_match.proofs.Lookup.{first-hit, first_miss}

module _ (s : List ℕ) (a : ℕ) where
  -- in the frame i, among n records from k on
  record Inside (i k n : ℕ) (r : MatchAnswer) : Type 0 where
    frame : r.frame ≡ i
    from : k ≤ r.index
    below : r.index < k + n
    address : address_of s i r.index ≡ a

  inside : (i k n : ℕ) → (first_of (in_frame s a i k n)).number ≡ 0 → Inside i k n (first_of (in_frame s a i k n))
  unfolding in_frame
  inside i k zero h = absurd (omega arith)
  inside i k (suc n) h = go (λ g. inside i (suc k) n g) (eqb (address_of s i k) a) refl
    where
      go : ((first_of (in_frame s a i (suc k) n)).number ≡ 0 → Inside i (suc k) n (first_of (in_frame s a i (suc k) n))) → (b : Bool) → eqb (address_of s i k) a ≡ b
          → Inside i k (suc n) (first_of (in_frame s a i k (suc n)))
      go rest true e = rw e (record { frame = refl; from = omega arith; below = omega arith; address = eqb-true _ _ e })
      go rest false e =
          let m = rest (rw e at h) in
          rw e (record { frame = m.frame; from = let f = m.from in omega arith; below = let f = m.below in omega arith; address = m.address })

  -- none of them stands before the first
  least : (i k n j : ℕ) → k ≤ j → j < k + n → address_of s i j ≡ a → ((first_of (in_frame s a i k n)).number ≡ 0) × ((first_of (in_frame s a i k n)).index ≤ j)
  unfolding in_frame
  least i k zero j l m h = absurd (omega arith)
  least i k (suc n) j l m h = go (λ g. least i (suc k) n j g (omega arith) h) (eqb (address_of s i k) a) refl
    where
      go : (suc k ≤ j → ((first_of (in_frame s a i (suc k) n)).number ≡ 0) × ((first_of (in_frame s a i (suc k) n)).index ≤ j)) → (b : Bool) → eqb (address_of s i k) a ≡ b
          → ((first_of (in_frame s a i k (suc n))).number ≡ 0) × ((first_of (in_frame s a i k (suc n))).index ≤ j)
      go rest true e = rw e (refl, l)
      go rest false e = rw e (rest (later (ℕ_discrete k j)))
        where
          later : Dec (k ≡ j) → suc k ≤ j
          later (yes d) = absurd (eqb-false _ _ e (rw (sym d) at h))
          later (no f) = omega arith

  -- n frames from i on

  record Among (i n : ℕ) (r : MatchAnswer) : Type 0 where
    first : i ≤ r.frame
    last : r.frame < i + n
    from : record_index s r.frame ≤ r.index
    below : r.index < record_index s r.frame + record_count s r.frame
    address : address_of s r.frame r.index ≡ a

  here : (i n : ℕ) (r : MatchAnswer) → Inside i (record_index s i) (record_count s i) r → Among i (suc n) r
  here i n r m =
      let e = m.frame in
      record {
        first = omega arith;
        last = omega arith;
        from = rw e m.from;
        below = rw e m.below;
        address = rw e m.address;
      }

  abbrev these : ℕ → List Match
  these i = in_frame s a i (record_index s i) (record_count s i)

  among : (i n : ℕ) → (first_of (in_frames s a i n)).number ≡ 0 → Among i n (first_of (in_frames s a i n))
  unfolding in_frames
  among i zero h = absurd (omega arith)
  among i (suc n) h = go (λ g. among (suc i) n g) (ℕ_discrete (first_of (these i)).number 0)
    where
      go : ((first_of (in_frames s a (suc i) n)).number ≡ 0 → Among (suc i) n (first_of (in_frames s a (suc i) n))) → Dec ((first_of (these i)).number ≡ 0)
          → Among i (suc n) (first_of (these i ++ in_frames s a (suc i) n))
      go rest (yes e) = rw (first-hit (these i) (in_frames s a (suc i) n) e) (here i n _ (inside i (record_index s i) (record_count s i) e))
      go rest (no f) =
          let d = first_miss (these i) (in_frames s a (suc i) n) f in
          let m = rest (rw d at h) in
          rw d (record { first = let x = m.first in omega arith; last = let x = m.last in omega arith; from = m.from; below = m.below; address = m.address })

  abbrev Before : ℕ → ℕ → MatchAnswer → Type 0
  Before j l r = (r.number ≡ 0) × NotAfter r.frame r.index j l

  before : (i n j l : ℕ) → i ≤ j → j < i + n → record_index s j ≤ l → l < record_index s j + record_count s j → address_of s j l ≡ a
      → Before j l (first_of (in_frames s a i n))
  unfolding in_frames
  before i zero j l p q u v h = absurd (omega arith)
  before i (suc n) j l p q u v h =
      go (λ g. before (suc i) n j l g (omega arith) u v h) (ℕ_discrete i j) (ℕ_discrete (first_of (these i)).number 0)
    where
      go : (suc i ≤ j → Before j l (first_of (in_frames s a (suc i) n))) → Dec (i ≡ j) → Dec ((first_of (these i)).number ≡ 0)
          → Before j l (first_of (these i ++ in_frames s a (suc i) n))
      go rest (yes d) x =
          let z = least i (record_index s i) (record_count s i) l (rw d u) (rw d v) (rw d h) in
          let m = inside i (record_index s i) (record_count s i) z.0 in
          rw (first-hit (these i) (in_frames s a (suc i) n) z.0) (z.0, inr (m.frame ∙ d, z.1))
      go rest (no d) (yes e) =
          let m = inside i (record_index s i) (record_count s i) e in
          let y = m.frame in
          rw (first-hit (these i) (in_frames s a (suc i) n) e) (e, inl (omega arith))
      go rest (no d) (no f) = rw (first_miss (these i) (in_frames s a (suc i) n) f) (rest (omega arith))

  accepted : flat_check s ≡ 0 → by_address s a ≡ first_of (in_frames s a 0 (num_frames s))
  unfolding by_address matches
  accepted h = sym (ask-accepted not_found _ 0 (flat_check s) (sym h) refl)

pub first_match : FirstMatch
first_match =
    record {
      found = λ s a h n.
          let e = accepted s a h in
          let m = among s a 0 (num_frames s) (rw e at n) in
          rw e (record { frame = let x = m.last in omega arith; from = m.from; below = m.below; address = m.address });
      first = λ s a h i k m. rw (accepted s a h) (before s a 0 (num_frames s) i k (omega arith) (let x = m.frame in omega arith) m.from m.below m.address);
    }
