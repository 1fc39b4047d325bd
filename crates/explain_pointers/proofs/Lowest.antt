-- The lowest pair of which a test holds, by the lowest pointer.
use Prim.Native.Nat.{ℕ, zero, suc, ◌+◌, ◌-◌, ◌≤◌, ◌<◌}
use mathlib.Core.Path.{◌≡◌, refl, sym, ap, ◌∙◌}
use mathlib.Core.Bool.{Bool, true, false}
use mathlib.Core.Option.{Option, none, some}
use mathlib.Core.List.{List, [], ◌∷◌, ◌++◌, map, flatten}
use native.Mathlib.Omega.{arith}
use native.Mathlib.Nat.{not-suc-le-zero}
use native.Mathlib.Decide.{dec_lt}
use borrow.Author.Tests.{lt-ltb, le-ltb}
use lib.ListN.{length, get_or, length-append, get_or-append}
use lib.Seq.{get_or-append-add}
use Rattle.moves.specs.Search.{lowest}
use Rattle.moves.specs.Pointers.{Pointer, null}
use Rattle.moves.specs.Plan.{pair_of}
use Rattle.moves.proofs.Searches.{lowest-all}
use Rattle.explain.specs.Explain.{Hit, among, lowest_pair}
use Rattle.explain_pointers.proofs.Searching.{lowest_true, lowest-before}

-- a pointer past the first list is one of the second
past : (ps qs : List Pointer) (j : ℕ) → length ps ≤ j → get_or (ps ++ qs) j null ≡ get_or qs (j - length ps) null
past ps qs j h =
    let e : length ps + (j - length ps) ≡ j = omega arith in
    ap (λ (k : ℕ). get_or (ps ++ qs) k null) (sym e) ∙ get_or-append-add ps qs (j - length ps) null

module _ (test : Pointer → Bool) (g : Pointer → Pointer) where
  -- the test of pointer number j
  abbrev at : List Pointer → ℕ → Bool
  at ps j = test (g (get_or ps j null))

  among-hit : (ps : List Pointer) (i k : ℕ) (rest : Option Hit) → k < length ps → at ps k ≡ true → ((j : ℕ) → j < k → at ps j ≡ false)
      → among test i (map g ps) rest ≡ some (record { pair = i; pointer = g (get_or ps k null) })
  unfolding among
  among-hit [] i k rest l h b = absurd (not-suc-le-zero l)
  among-hit (p ∷ ps) i zero rest l h b = let e : test (g p) ≡ true = h in rw e
  among-hit (p ∷ ps) i (suc k) rest l h b =
      let e : test (g p) ≡ false = b 0 (omega arith) in
      rw e (among-hit ps i k rest (omega arith) h (λ j m. b (suc j) (omega arith)))

  among_miss : (ps : List Pointer) (i : ℕ) (rest : Option Hit) → ((j : ℕ) → j < length ps → at ps j ≡ false) → among test i (map g ps) rest ≡ rest
  unfolding among
  among_miss [] i rest b = refl
  among_miss (p ∷ ps) i rest b =
      let e : test (g p) ≡ false = b 0 (omega arith) in
      rw e (among_miss ps i rest (λ j m. b (suc j) (omega arith)))

  hit : (pss : List (List Pointer)) (i k : ℕ) → k < length (flatten pss) → at (flatten pss) k ≡ true → ((j : ℕ) → j < k → at (flatten pss) j ≡ false)
      → lowest_pair test i (map (map g) pss) ≡ some (record { pair = i + pair_of pss k; pointer = g (get_or (flatten pss) k null) })
  unfolding lowest_pair flatten pair_of
  hit [] i k l h b = absurd (not-suc-le-zero l)
  hit (ps ∷ pss) i k l h b = go (hit pss (suc i) (k - length ps)) (dec_lt k (length ps))
    where
      qs : List Pointer
      qs = flatten pss

      long : length (ps ++ qs) ≡ length ps + length qs
      long = length-append ps qs

      near : (j : ℕ) → j < length ps → at ps j ≡ at (ps ++ qs) j
      near j m = ap (λ (q : Pointer). test (g q)) (sym (get_or-append ps qs null j m))

      far : (j : ℕ) → length ps ≤ j → at qs (j - length ps) ≡ at (ps ++ qs) j
      far j m = ap (λ (q : Pointer). test (g q)) (sym (past ps qs j m))

      further : (j : ℕ) → at qs j ≡ at (ps ++ qs) (length ps + j)
      further j = ap (λ (q : Pointer). test (g q)) (sym (get_or-append-add ps qs j null))

      go : (k - length ps < length qs → at qs (k - length ps) ≡ true → ((j : ℕ) → j < k - length ps → at qs j ≡ false)
          → lowest_pair test (suc i) (map (map g) pss) ≡ some (record { pair = suc i + pair_of pss (k - length ps); pointer = g (get_or qs (k - length ps) null) }))
          → Dec (k < length ps)
          → lowest_pair test i (map (map g) (ps ∷ pss)) ≡ some (record { pair = i + pair_of (ps ∷ pss) k; pointer = g (get_or (ps ++ qs) k null) })
      go rest (yes m) =
          let z : i + 0 ≡ i = omega arith in
          rw (lt-ltb k (length ps) m, get_or-append ps qs null k m, z)
          (among-hit ps i k (lowest_pair test (suc i) (map (map g) pss)) m (near k m ∙ h) (λ j n. near j (omega arith) ∙ b j n))
      go rest (no m) =
          let z : i + suc (pair_of pss (k - length ps)) ≡ suc i + pair_of pss (k - length ps) = omega arith in
          rw (le-ltb k (length ps) (omega arith), past ps qs k (omega arith), z)
          (among_miss ps i (lowest_pair test (suc i) (map (map g) pss)) (λ j n. near j n ∙ b j (omega arith))
          ∙ rest (omega (arith, long)) (far k (omega arith) ∙ h) (λ j n. further j ∙ b (length ps + j) (omega arith)))

  miss : (pss : List (List Pointer)) (i : ℕ) → ((j : ℕ) → j < length (flatten pss) → at (flatten pss) j ≡ false) → lowest_pair test i (map (map g) pss) ≡ none
  unfolding lowest_pair flatten
  miss [] i b = refl
  miss (ps ∷ pss) i b =
      among_miss ps i (lowest_pair test (suc i) (map (map g) pss))
      (λ j n. ap (λ (q : Pointer). test (g q)) (sym (get_or-append ps (flatten pss) null j n)) ∙ b j (omega (arith, length-append ps (flatten pss))))
      ∙ miss pss (suc i) (λ j n.
      ap (λ (q : Pointer). test (g q)) (sym (get_or-append-add ps (flatten pss) j null)) ∙ b (length ps + j) (omega (arith, length-append ps (flatten pss))))

  -- by an equal test of the pointers' numbers
  module _ (pss : List (List Pointer)) (n : ℕ) (e : n ≡ length (flatten pss)) (t : ℕ → Bool) (same : (j : ℕ) → j < n → at (flatten pss) j ≡ t j) where
    pub found : lowest t n < n
        → lowest_pair test 0 (map (map g) pss) ≡ some (record { pair = pair_of pss (lowest t n); pointer = g (get_or (flatten pss) (lowest t n) null) })
    found h =
        hit pss 0 (lowest t n) (omega (arith, e)) (same (lowest t n) h ∙ lowest_true t n h) (λ j l. same j (omega arith) ∙ lowest-before t n j l)
        ∙ ap (λ (p : ℕ). some (record { pair = p; pointer = g (get_or (flatten pss) (lowest t n) null) })) (omega arith)

    pub lost : n ≤ lowest t n → lowest_pair test 0 (map (map g) pss) ≡ none
    lost h = miss pss 0 (λ j l. same j (omega (arith, e)) ∙ lowest-all t n h j (omega (arith, e)))

  pub none_found : (pss : List (List Pointer)) → ((j : ℕ) → j < length (flatten pss) → at (flatten pss) j ≡ false) → lowest_pair test 0 (map (map g) pss) ≡ none
  none_found pss b = miss pss 0 b
