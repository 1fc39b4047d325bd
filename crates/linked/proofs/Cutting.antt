-- One turn of cutting, by what the check says of the bytes that are left.
use Prim.Native.Nat.{ℕ, zero, suc, ◌+◌, ◌-◌, ◌<◌}
use mathlib.Core.Path.{◌≡◌, refl, sym, ap, ◌∙◌}
use mathlib.Core.List.{List, [], ◌∷◌}
use native.Mathlib.Omega.{arith}
use native.Mathlib.Decide.{ℕ_discrete}
use borrow.Author.Tests.{ne_eqb}
use lib.ListN.{length, take, drop, length-drop}
use lib.Seq.{drop-drop}
use Rattle.stackmap.specs.Verdict.{Verdict}
use Rattle.stackmap.specs.Verdict.{Valid, Refused}
use Rattle.stackmap.specs.Check.{section_check, Accepted}
use Rattle.stackmap.proofs.Forth.{accepted-length}
use Rattle.linked.specs.Linked.{map_at, Cut, maps, refusal, before, cut_from, cut}
use Rattle.linked.proofs.Prefix.{prefix}

-- what is left is the last map, or begins with one that others follow, or is refused
pub data Looked (s : List ℕ) : Type 0 where
  last : Accepted s → Looked s
  more : (p : ℕ) → section_check s ≡ Refused 9 p → Looked s
  wrong : (n p : ℕ) → section_check s ≡ Refused n p → (n ≡ 9 → ⊥) → Looked s

pub looked : (s : List ℕ) → Looked s
looked s = go (section_check s) refl
  where
    go₂ : (n p : ℕ) → section_check s ≡ Refused n p → Dec (n ≡ 9) → Looked s
    go₂ n p h (yes e) = more p (rw e at h)
    go₂ n p h (no e) = wrong n p h e

    go : (v : Verdict) → section_check s ≡ v → Looked s
    go (Valid e) h = last (h ∙ ap Valid (accepted-length s e h).0)
    go (Refused n p) h = go₂ n p h (ℕ_discrete n 9)

module _ (bound at : ℕ) (s : List ℕ) where
  pub cut-last : Accepted s → cut_from (suc bound) at s ≡ maps (map_at at s ∷ [])
  unfolding cut_from
  cut-last h = rw h

  pub cut-more : (p : ℕ) → section_check s ≡ Refused 9 p → cut_from (suc bound) at s ≡ before (map_at at (take p s)) (cut_from bound (at + p) (drop p s))
  unfolding cut_from
  cut-more p h = rw h

  pub cut_wrong : (n p : ℕ) → section_check s ≡ Refused n p → (n ≡ 9 → ⊥) → cut_from (suc bound) at s ≡ refusal n (at + p)
  unfolding cut_from
  cut_wrong n p h o = rw (h, ne_eqb n 9 o)

-- two bounds that are not met give the same
pub bounds_same : (b d at : ℕ) (s : List ℕ) → length s < b → length s < d → cut_from b at s ≡ cut_from d at s
bounds_same zero d at s h k = absurd (omega arith)
bounds_same (suc b) zero at s h k = absurd (omega arith)
bounds_same (suc b) (suc d) at s h k = go (λ p i. bounds_same b d (at + p) (drop p s) i.0 i.1) (looked s)
  where
    go : ((p : ℕ) → (length (drop p s) < b) × (length (drop p s) < d) → cut_from b (at + p) (drop p s) ≡ cut_from d (at + p) (drop p s))
        → Looked s → cut_from (suc b) at s ≡ cut_from (suc d) at s
    go rest (last a) = cut-last b at s a ∙ sym (cut-last d at s a)
    go rest (wrong n p e o) = cut_wrong b at s n p e o ∙ sym (cut_wrong d at s n p e o)
    go rest (more p e) =
        let f = prefix s p e in
        let l = f.least in
        let i = f.inside in
        let z = length-drop p s in
        cut-more b at s p e ∙ ap (before (map_at at (take p s))) (rest p (omega arith, omega arith)) ∙ sym (cut-more d at s p e)

-- what lies from `at` on, in a walk over the maps of s
abbrev pub cut_rest : List ℕ → ℕ → Cut
cut_rest s at = cut_from (suc (length (drop at s))) at (drop at s)

pub rest-start : (s : List ℕ) → cut s ≡ cut_rest s 0
unfolding cut
rest-start s = refl

module _ (s : List ℕ) (at : ℕ) where
  pub rest-last : Accepted (drop at s) → cut_rest s at ≡ maps (map_at at (drop at s) ∷ [])
  rest-last h = cut-last (length (drop at s)) at (drop at s) h

  pub rest_wrong : (n p : ℕ) → section_check (drop at s) ≡ Refused n p → (n ≡ 9 → ⊥) → cut_rest s at ≡ refusal n (at + p)
  rest_wrong n p h o = cut_wrong (length (drop at s)) at (drop at s) n p h o

  pub rest_more : (p : ℕ) → section_check (drop at s) ≡ Refused 9 p → cut_rest s at ≡ before (map_at at (take p (drop at s))) (cut_rest s (at + p))
  rest_more p h =
      let f = prefix (drop at s) p h in
      let l = f.least in
      let i = f.inside in
      let z = length-drop p (drop at s) in
      let b = bounds_same (length (drop at s)) (suc (length (drop p (drop at s)))) (at + p) (drop p (drop at s)) (omega arith) (omega arith) in
      cut-more (length (drop at s)) at (drop at s) p h ∙ ap (before (map_at at (take p (drop at s)))) (b ∙ ap (λ (r : List ℕ). cut_from (suc (length r)) (at + p) r) (drop-drop p at s))
