-- What the search for the lowest pair tells.
use Prim.Native.Nat.{ℕ, suc}
use mathlib.Core.Path.{◌≡◌, refl, sym, ap, ◌∙◌}
use mathlib.Core.Bool.{Bool, true, false}
use mathlib.Core.Logic.{◌⊎◌, inl, inr, ⊎_elim}
use mathlib.Core.Option.{Option, none, some}
use mathlib.Core.List.Memᴰ
use mathlib.Core.List.{List, [], ◌∷◌, flatten, Memᴰ}
use native.Mathlib.Omega.{arith}
use Rattle.moves.specs.Pointers.{Pointer}
use Rattle.explain.specs.Explain.{Hit, among, lowest_pair}

-- a pointer of which the test holds
pub record Hits (test : Pointer → Bool) (ps : List Pointer) (h : Hit) : Type 0 where
  pub member : Memᴰ h.pointer ps
  pub holds : test h.pointer ≡ true

-- the test holds of none
abbrev pub Misses : (Pointer → Bool) → List Pointer → Type 0
Misses test ps = (p : Pointer) → Memᴰ p ps → test p ≡ false

module _ (test : Pointer → Bool) where
  among-some : (i : ℕ) (ps : List Pointer) (k : Option Hit) (h : Hit) → among test i ps k ≡ some h → Hits test ps h ⊎ (k ≡ some h)
  unfolding among
  among-some i [] k h e = inr e
  among-some i (p ∷ ps) k h e = go (among-some i ps k h) (test p) refl
    where
      rest : Hits test ps h ⊎ (k ≡ some h) → Hits test (p ∷ ps) h ⊎ (k ≡ some h)
      rest (inl x) = inl (record { member = Memᴰ.tail x.member; holds = x.holds })
      rest (inr x) = inr x

      go : (among test i ps k ≡ some h → Hits test ps h ⊎ (k ≡ some h)) → (b : Bool) → test p ≡ b → Hits test (p ∷ ps) h ⊎ (k ≡ some h)
      go on true q = let z : some (record { pair = i; pointer = p }) ≡ some h = rw q at e in let y : p ≡ h.pointer = cc in inl (record { member = Memᴰ.head (sym y); holds = rw (← y) q })
      go on false q = rest (on (rw q at e))

  among_none : (i : ℕ) (ps : List Pointer) (k : Option Hit) → among test i ps k ≡ none → Misses test ps × (k ≡ none)
  unfolding among
  among_none i [] k e = (λ p m. absurd (Memᴰ.not-nil m), e)
  among_none i (p ∷ ps) k e = go (among_none i ps k) (test p) refl
    where
      go : (among test i ps k ≡ none → Misses test ps × (k ≡ none)) → (b : Bool) → test p ≡ b → Misses test (p ∷ ps) × (k ≡ none)
      go on true q = absurd (let z : some (record { pair = i; pointer = p }) ≡ none = rw q at e in let y : ◌≡◌ {A = ℕ} 0 1 = cc in omega arith)
      go on false q =
          let r = on (rw q at e) in
          (λ x m. ⊎_elim (λ d. rw d q) (λ n. r.0 x n) (Memᴰ.cases_cons m), r.1)

  pub pair-some : (i : ℕ) (pss : List (List Pointer)) (h : Hit) → lowest_pair test i pss ≡ some h → Hits test (flatten pss) h
  unfolding lowest_pair flatten
  pair-some i [] h e = absurd (let y : ◌≡◌ {A = ℕ} 0 1 = cc in omega arith)
  pair-some i (ps ∷ pss) h e =
      ⊎_elim (λ x. record { member = Memᴰ.append_left _ x.member; holds = x.holds })
      (λ x. let r = pair-some (suc i) pss h x in record { member = Memᴰ.append_right ps r.member; holds = r.holds })
      (among-some i ps (lowest_pair test (suc i) pss) h e)

  pub pair-none : (i : ℕ) (pss : List (List Pointer)) → lowest_pair test i pss ≡ none → Misses test (flatten pss)
  unfolding lowest_pair flatten
  pair-none i [] e p m = absurd (Memᴰ.not-nil m)
  pair-none i (ps ∷ pss) e p m =
      let r = among_none i ps (lowest_pair test (suc i) pss) e in
      ⊎_elim (λ n. r.0 p n) (λ n. pair-none (suc i) pss r.1 p n) (Memᴰ.append_cases ps m)

-- two tests that agree on all pointers find the same
module _ (test test' : Pointer → Bool) where
  among_same : (i : ℕ) (ps : List Pointer) (k : Option Hit) → ((p : Pointer) → Memᴰ p ps → test p ≡ test' p) → among test i ps k ≡ among test' i ps k
  unfolding among
  among_same i [] k a = refl
  among_same i (p ∷ ps) k a = rw (a p (Memᴰ.head refl), among_same i ps k (λ q m. a q (Memᴰ.tail m)))

  pub pair_same : (i : ℕ) (pss : List (List Pointer)) → ((p : Pointer) → Memᴰ p (flatten pss) → test p ≡ test' p) → lowest_pair test i pss ≡ lowest_pair test' i pss
  unfolding lowest_pair flatten
  pair_same i [] a = refl
  pair_same i (ps ∷ pss) a =
      among_same i ps (lowest_pair test (suc i) pss) (λ p m. a p (Memᴰ.append_left _ m))
      ∙ ap (among test' i ps) (pair_same (suc i) pss (λ p m. a p (Memᴰ.append_right ps m)))
