-- What keys in order tell of a frame's first match.
use Prim.Native.Nat.{ℕ, zero, suc, ◌+◌, ◌*◌, ◌-◌, ◌≤◌, ◌<◌}
use mathlib.Core.Path.{◌≡◌, sym, ap, ◌∙◌}
use mathlib.Core.List.{List}
use native.Mathlib.Omega.{arith}
use native.Mathlib.Decide.{dec_lt, ℕ_discrete}
use lib.ListN.{get_or}
use Rattle.wire.specs.Word.{word}
use Rattle.flat.specs.Places.{frames_at}
use Rattle.sorted.specs.Sorted.{LowerBound}
use Rattle.flat_match.specs.declared.MatchAnswer.{MatchAnswer}
use Rattle.flat_match.specs.Find.{address_of, in_frame, not_found, first_of}
use Rattle.flat_keys.specs.Keys.{offset_of, Keyed}
use Rattle.flat_match.proofs.Lookup.{Looking, look-start, look_on, look-end}

-- records without a match are passed over
pub skipped : (s : List ℕ) (a i k n d : ℕ) → d ≤ n → ((j : ℕ) → k ≤ j → j < k + d → address_of s i j ≡ a → ⊥) → Looking s a i k n (k + d)
skipped s a i k n zero l h = let z : k + 0 ≡ k = omega arith in rw z (look-start s a i k n)
skipped s a i k n (suc d) l h =
    let t = skipped s a i k n d (omega arith) (λ j u v. h j u (omega arith)) in
    let z : k + suc d ≡ k + d + 1 = omega arith in
    rw z (look_on s a i k n (k + d) t (omega arith) (h (k + d) (omega arith) (omega arith)))

pub no_match : (s : List ℕ) (a i k n : ℕ) (r : MatchAnswer) → ((j : ℕ) → k ≤ j → j < k + n → address_of s i j ≡ a → ⊥) → r ≡ not_found 41 → r ≡ first_of (in_frame s a i k n)
no_match s a i k n r h e = look-end s a i k n (k + n) r (skipped s a i k n n (omega arith) h) (omega arith) e

module _ (s keys : List ℕ) (a i k n count frames f : ℕ) (h : Keyed s keys count) (l : k + n ≤ count) (d : frames ≡ frames_at s) (g : f ≡ word 8 s (frames + 28 * i)) where
  start_is : f ≡ word 8 s (frames_at s + 28 * i)
  start_is = rw d at g

  -- an offset has 32 bits
  pub too_far : (r : MatchAnswer) → f ≤ a → 4294967296 ≤ a - f → r ≡ not_found 41 → r ≡ first_of (in_frame s a i k n)
  too_far r m v e =
      no_match s a i k n r (λ j u w x. let o = h.small j (omega arith) in let b = start_is in omega arith) e

  module _ (p : ℕ) (m : f ≤ a) (b : LowerBound keys count ((a - f) * 131072 + k) p) where
    -- the key of a match stands at p or after it
    pub at_or_after : (j : ℕ) → k ≤ j → j < k + n → address_of s i j ≡ a → (p < count) × (get_or keys p 0 ≤ (a - f) * 131072 + j)
    at_or_after j u v x = go (dec_lt q p) (ℕ_discrete p q)
      where
        q : ℕ
        q = (h.each j (omega arith)).place

        same : get_or keys q 0 ≡ (a - f) * 131072 + j
        same =
            let o : offset_of s j ≡ a - f = let c = start_is in omega arith in
            (h.each j (omega arith)).same ∙ ap (λ (w : ℕ). w * 131072 + j) o

        go : Dec (q < p) → Dec (p ≡ q) → (p < count) × (get_or keys p 0 ≤ (a - f) * 131072 + j)
        go (yes c) e = absurd (let y = b.below q c in let z = same in omega arith)
        go (no c) (yes e) = let y = (h.each j (omega arith)).inside in (omega arith, rw e (let z = same in omega arith))
        go (no c) (no e) =
            let y = (h.each j (omega arith)).inside in
            let z = same in
            let w = h.sorted.order p q (omega arith) y in
            (omega arith, omega arith)

    -- no match below the key's record
    pub from_key : (j : ℕ) (r : MatchAnswer) → p < count → get_or keys p 0 < (a - f) * 131072 + (k + n) → j ≡ get_or keys p 0 - (a - f) * 131072
        → r ≡ first_of (in_frame s a i j (k + n - j)) → r ≡ first_of (in_frame s a i k n)
    from_key j r y z w e =
        let v = b.above p (omega arith) y in
        let x : k + (j - k) ≡ j = omega arith in
        let t = skipped s a i k n (j - k) (omega arith) (λ o u c m. let q = (at_or_after o u (omega arith) m).1 in omega arith) in
        e ∙ sym (rw x at t).same

    pub none-at : (r : MatchAnswer) → (p < count → (a - f) * 131072 + (k + n) ≤ get_or keys p 0) → r ≡ not_found 41 → r ≡ first_of (in_frame s a i k n)
    none-at r z e = no_match s a i k n r (λ j u v x. let q = at_or_after j u v x in let y = z q.0 in let w = q.1 in omega arith) e
