-- Steps of the lookup: within a frame, and from frame to frame.
use Prim.Native.Nat.{ℕ, zero, suc, ◌+◌, ◌*◌, ◌-◌, ◌≤◌, ◌<◌}
use mathlib.Core.Path.{◌≡◌, refl, sym, ◌∙◌}
use mathlib.Core.List.{List, [], ◌∷◌, ◌++◌}
use native.Mathlib.Omega.{arith}
use native.Mathlib.Numerals.{add-one}
use borrow.Author.Tests.{eq-eqb, ne_eqb}
use lib.ListN.{length}
use Rattle.wire.specs.Word.{word}
use Rattle.flat.specs.Places.{frames_at, records_at, num_frames}
use Rattle.flat_check.proofs.Chain.{Told}
use Rattle.flat_check.proofs.Accept.{told_arranged, frame_range}
use Rattle.flat_match.specs.declared.MatchAnswer.{MatchAnswer}
use Rattle.flat_match.specs.Find.{Match, address_of, in_frame, record_index, record_count, in_frames, matches, not_found, first_of}

-- Within the frame i.

-- no sum is the address where the function's own is past it
none_past : (s : List ℕ) (a i : ℕ) → a < word 8 s (frames_at s + 28 * i) → (k n : ℕ) → in_frame s a i k n ≡ []
unfolding in_frame
none_past s a i h k zero = refl
none_past s a i h k (suc n) = rw (ne_eqb (address_of s i k) a (λ e. omega arith)) (none_past s a i h (suc k) n)

pub past : (s : List ℕ) (a i k n : ℕ) (r : MatchAnswer) (frames f : ℕ) → frames ≡ frames_at s → f ≡ word 8 s (frames + 28 * i) → a < f → r ≡ not_found 41
    → r ≡ first_of (in_frame s a i k n)
past s a i k n r frames f e g h m =
    let v : f ≡ word 8 s (frames_at s + 28 * i) = rw e at g in
    m ∙ rw (none_past s a i (omega arith) k n)

-- the code subtracts where the definition adds
pub sum_is : (s : List ℕ) (a i j frames records f o : ℕ) → frames ≡ frames_at s → records ≡ records_at s → f ≡ word 8 s (frames + 28 * i)
    → o ≡ word 4 s (records + 22 * j + 8) → f ≤ a → (o ≡ a - f → address_of s i j ≡ a) × (address_of s i j ≡ a → o ≡ a - f)
sum_is s a i j frames records f o d e g h l =
    let v : f ≡ word 8 s (frames_at s + 28 * i) = rw d at g in
    let w : o ≡ word 4 s (records_at s + 22 * j + 8) = rw e at h in
    ((λ x. omega arith), (λ x. omega arith))

-- what is left of n records from k on gives what all of them give
pub record Looking (s : List ℕ) (a i k n j : ℕ) : Type 0 where
  pub from : k ≤ j
  pub most : j ≤ k + n
  pub same : first_of (in_frame s a i k n) ≡ first_of (in_frame s a i j (k + n - j))

pub look-start : (s : List ℕ) (a i k n : ℕ) → Looking s a i k n k
look-start s a i k n = let z : k + n - k ≡ n = omega arith in record { from = omega arith; most = omega arith; same = rw z }

module _ (s : List ℕ) (a i k n j : ℕ) (t : Looking s a i k n j) (l : j < k + n) where
  left : k + n - j ≡ suc (k + n - (j + 1))
  left = omega arith

  pub look_on : (address_of s i j ≡ a → ⊥) → Looking s a i k n (j + 1)
  unfolding in_frame
  look_on h =
      record {
        from = let f = t.from in omega arith;
        most = omega arith;
        same = t.same ∙ rw (left, ne_eqb (address_of s i j) a h, add-one);
      }

  pub look_hit : address_of s i j ≡ a → record { number = 0; place = 0; frame = i; index = j } ≡ first_of (in_frame s a i k n)
  unfolding in_frame
  look_hit h = sym (t.same ∙ rw (left, eq-eqb (address_of s i j) a h))

pub look-end : (s : List ℕ) (a i k n j : ℕ) (r : MatchAnswer) → Looking s a i k n j → k + n ≤ j → r ≡ not_found 41 → r ≡ first_of (in_frame s a i k n)
unfolding in_frame
look-end s a i k n j r t l e = let z : k + n - j ≡ 0 = omega arith in e ∙ sym (t.same ∙ rw z)

-- From frame to frame.

pub first-hit : (xs ys : List Match) → (first_of xs).number ≡ 0 → first_of (xs ++ ys) ≡ first_of xs
first-hit [] ys h = absurd (omega arith)
first-hit (x ∷ xs) ys h = refl

pub first_miss : (xs ys : List Match) → ((first_of xs).number ≡ 0 → ⊥) → first_of (xs ++ ys) ≡ first_of ys
first_miss [] ys h = refl
first_miss (x ∷ xs) ys h = absurd (h refl)

pub record Going (s : List ℕ) (a i : ℕ) : Type 0 where
  pub most : i ≤ num_frames s
  pub same : first_of (matches s a) ≡ first_of (in_frames s a i (num_frames s - i))

pub go_start : (s : List ℕ) (a : ℕ) → Going s a 0
unfolding matches
go_start s a = let z : num_frames s - 0 ≡ num_frames s = omega arith in record { most = omega arith; same = rw z }

module _ (s : List ℕ) (a i : ℕ) (t : Going s a i) (l : i < num_frames s) where
  ahead : num_frames s - i ≡ suc (num_frames s - (i + 1))
  ahead = omega arith

  step : first_of (matches s a) ≡ first_of (in_frame s a i (record_index s i) (record_count s i) ++ in_frames s a (i + 1) (num_frames s - (i + 1)))
  unfolding in_frames
  step = t.same ∙ rw (ahead, add-one)

  pub go_on : (r : MatchAnswer) → r ≡ first_of (in_frame s a i (record_index s i) (record_count s i)) → (r.number ≡ 0 → ⊥) → Going s a (i + 1)
  go_on r e h = record { most = omega arith; same = step ∙ first_miss (in_frame s a i (record_index s i) (record_count s i)) (in_frames s a (i + 1) (num_frames s - (i + 1))) (rw e at h) }

  pub go_hit : (r : MatchAnswer) → r ≡ first_of (in_frame s a i (record_index s i) (record_count s i)) → r.number ≡ 0 → r ≡ first_of (matches s a)
  go_hit r e h =
      e ∙ sym (step ∙ first-hit (in_frame s a i (record_index s i) (record_count s i)) (in_frames s a (i + 1) (num_frames s - (i + 1))) (rw e at h))

pub go_end : (s : List ℕ) (a i : ℕ) (r : MatchAnswer) → Going s a i → num_frames s ≤ i → r ≡ not_found 41 → r ≡ first_of (matches s a)
unfolding in_frames
go_end s a i r t l e = let z : num_frames s - i ≡ 0 = omega arith in e ∙ sym (t.same ∙ rw z)

-- the range that the code reads is the frame's, and inside
module _ (s : List ℕ) (i frames k n : ℕ) (d : frames ≡ frames_at s) (e : k ≡ word 2 s (frames + 28 * i + 26)) (f : n ≡ word 2 s (frames + 28 * i + 24)) where
  pub range_fits : Told s → i < num_frames s → (frames_at s + 28 * i + 28 ≤ length s) × (records_at s + 22 * (k + n) ≤ length s)
  range_fits t l =
      let v : k ≡ word 2 s (frames_at s + 28 * i + 26) = rw d at e in
      let w : n ≡ word 2 s (frames_at s + 28 * i + 24) = rw d at f in
      let r = frame_range s t i l in
      let a = told_arranged s t in
      (omega arith, omega arith)

  pub hit-is : (a : ℕ) (r : MatchAnswer) → r ≡ first_of (in_frame s a i k n) → r ≡ first_of (in_frame s a i (record_index s i) (record_count s i))
  hit-is a r h =
      let v : k ≡ record_index s i = rw d at e in
      let w : n ≡ record_count s i = rw d at f in
      rw (v, w) at h
