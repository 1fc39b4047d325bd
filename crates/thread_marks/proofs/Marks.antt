-- The records of many addresses, noted one by one.
use Prim.Native.Nat.{ℕ, ◌+◌, ◌*◌, ◌≤◌, ◌<◌}
use mathlib.Core.Path.{◌≡◌, refl, sym, ap, ◌∙◌}
use mathlib.Core.List.{List, [], ◌∷◌}
use native.Mathlib.Omega.{arith}
use Rattle.std.proofs.Common.{add-zero}
use Rattle.std.proofs.lemmas.List.{places}
use native.Mathlib.Decide.{dec_lt}
use borrow.Author.Tests.{eq-eqb, ne_eqb}
use lib.ListN.{length, get_or}
use borrow.Rule.Slice.PartMut.{put_mid}
use Rattle.stackmap.specs.Section.{Entry, address}
use Rattle.stackmap.specs.Walk.{entry_at}
use Rattle.questions.specs.declared.Hits.{Hits}
use Rattle.questions.specs.Kept.{no_hits, noted}
use Rattle.questions.proofs.Kept.{passed, fresh, fresh_at}
use Rattle.sorted.specs.Sorted.{LowerBound}
use Rattle.sorted.proofs.Laws.{lower_bound-one}
use Rattle.thread.specs.Code.{hits_at, Stored, Holding, Counted, noted_all}
use Rattle.thread_marks.specs.From.{hit_by, entry_from, Grown}

-- The four numbers of a place, written at once.

module _ (b : List ℕ) (i : ℕ) (h : Hits) (k : ℕ) (e : k ≡ 4) (l : 4 * i + 3 < length b) where
  abbrev four : List ℕ
  four = h.index ∷ h.function ∷ h.sharing ∷ h.first ∷ []

  inside : (j : ℕ) → j < 4 → get_or (put_mid (4 * i) k b four) (4 * i + j) 0 ≡ get_or four j 0
  inside j m = grind (arith, places)

  miss : (p : ℕ) → (4 * i ≤ p → p < 4 * i + 4 → ⊥) → get_or (put_mid (4 * i) k b four) p 0 ≡ get_or b p 0
  miss p n = grind (arith, places)

  pub stored : (vs : List ℕ) → vs ≡ four → Stored b (put_mid (4 * i) k b vs) i h
  stored vs f =
      let e₀ : get_or (put_mid (4 * i) k b four) (4 * i) 0 ≡ h.index = rw add-zero at (inside 0 (omega arith)) in
      let e₁ = inside 1 (omega arith) in
      let e₂ = inside 2 (omega arith) in
      let e₃ = inside 3 (omega arith) in
      rw f
      record {
        here = λ k. record { index = e₀ k; function = e₁ k; sharing = e₂ k; first = e₃ k };
        others =
            λ j n.
            let f₀ = miss (4 * j) (λ p q. n (omega arith)) in
            let f₁ = miss (4 * j + 1) (λ p q. n (omega arith)) in
            let f₂ = miss (4 * j + 2) (λ p q. n (omega arith)) in
            let f₃ = miss (4 * j + 3) (λ p q. n (omega arith)) in
            λ k. record { index = f₀ k; function = f₁ k; sharing = f₂ k; first = f₃ k };
      }

-- One more record.

-- an address that is another's is not noted
passes-by : (x : ℕ) (e : Entry) (h : Hits) → (x ≡ address e → ⊥) → noted x e h ≡ h
passes-by x e h n = passed x e h (ne_eqb _ _ (λ q. n (sym q)))

-- its address is none of those looked for
pub unlooked : (keys : List ℕ) (n : ℕ) (e : Entry) (before : List ℕ) → ((j : ℕ) → j < n → get_or keys j 0 ≡ address e → ⊥)
    → (h : ℕ → Hits) → Holding keys n before h → Holding keys n before (noted_all e h)
unlooked keys n e before none h r =
    record { at = λ j m c. r.at j m c ∙ sym (passes-by (get_or keys j 0) e (h (get_or keys j 0)) (none j m)) }

module _ (keys : List ℕ) (n : ℕ) (e : Entry) (i : ℕ) (b : LowerBound keys n (address e) i) where
  -- its address is looked for, at the place i
  pub marked : (before after : List ℕ) → i < n → get_or keys i 0 ≡ address e → Stored before after i (noted (address e) e (hits_at before i))
      → (h : ℕ → Hits) → Holding keys n before h → Holding keys n after (noted_all e h)
  marked before after l s t h r = record { at = λ j m c. go j m c (dec_lt j i) (dec_lt i j) }
    where
      other : (j : ℕ) → j < n → LowerBound keys n (get_or keys j 0) j → (j ≡ i → ⊥) → hits_at after j ≡ noted (get_or keys j 0) e (h (get_or keys j 0))
      other j m c d =
          t.others j d ∙ r.at j m c
          ∙ sym (passes-by (get_or keys j 0) e (h (get_or keys j 0)) (λ q. d (lower_bound-one (rw q at c) b)))

      go : (j : ℕ) → j < n → LowerBound keys n (get_or keys j 0) j → Dec (j < i) → Dec (i < j) → hits_at after j ≡ noted (get_or keys j 0) e (h (get_or keys j 0))
      go j m c (yes d) f = other j m c (λ q. omega arith)
      go j m c (no d) (yes f) = other j m c (λ q. omega arith)
      go j m c (no d) (no f) =
          let z : j ≡ i = omega arith in
          rw z (t.here ∙ rw (r.at i l (rw z at c), s))

  -- it is not looked for
  pub unmarked : (before : List ℕ) → (i < n → get_or keys i 0 ≡ address e → ⊥)
      → (h : ℕ → Hits) → Holding keys n before h → Holding keys n before (noted_all e h)
  unmarked before none h r =
      record {
        at =
            λ j m c. r.at j m c
            ∙ sym (passes-by (get_or keys j 0) e (h (get_or keys j 0))
            (λ q. let z = lower_bound-one (rw q at c) b in none (rw z at m) (rw z at q)));
      }

-- what is found of an entry is said by its numbers
pub hit-noted : (e : Entry) (i f p : ℕ) (h : Hits) → e.number ≡ i → e.owner.number ≡ f → e.first ≡ p → noted (address e) e h ≡ hit_by i f p h
unfolding noted
hit-noted e i f p h a b d = rw (eq-eqb (address e) (address e) refl, a, b, d)

-- where x was found there, and y is stored
pub hit_stored : {before after : List ℕ} {i : ℕ} (e : Entry) (n f p : ℕ) (x y : Hits) → x ≡ hits_at before i → y ≡ hit_by n f p x → e.number ≡ n → e.owner.number ≡ f → e.first ≡ p
    → Stored before after i y → Stored before after i (noted (address e) e (hits_at before i))
hit_stored e n f p x y q r a b d t = rw (← q, hit-noted e n f p x a b d, ← r) t

pub owner-is : (s : List ℕ) (index function at : ℕ) → (entry_at s index function at).owner.number ≡ function
owner-is s index function at =
    let e = entry_at s index function at in
    let q = eq-eqb (address e) (address e) refl in
    ap (λ (h : Hits). h.function) (sym (fresh (address e) e no_hits q refl) ∙ fresh_at (address e) s index function at no_hits q refl)

-- the first byte is counted from elsewhere, and the address is the same
pub address-from : (base : ℕ) (e : Entry) → address (entry_from base e) ≡ address e
unfolding address
address-from base e = refl

pub counted-more : (hits : List ℕ) (m n : ℕ) → m ≤ n → Counted hits m → Counted hits n
counted-more hits m n l c = record { most = λ i. omega (arith, c.most i) }

pub counted-grown : {before after : List ℕ} (k m n : ℕ) → m + k ≤ n → Grown before after k → Counted before m → Counted after n
counted-grown k m n l g c = record { most = λ i. omega (arith, g.each i, c.most i) }

pub grown-none : (hits : List ℕ) (k : ℕ) → Grown hits hits k
grown-none hits k = record { each = λ i. omega arith }

pub grown-more : {a b : List ℕ} (k n : ℕ) → k ≤ n → Grown a b k → Grown a b n
grown-more k n l g = record { each = λ i. omega (arith, g.each i) }

pub grown_on : {a b d : List ℕ} (k m n : ℕ) → k + m ≤ n → Grown a b k → Grown b d m → Grown a d n
grown_on k m n l g h = record { each = λ i. omega (arith, g.each i, h.each i) }

pub grown_stored : (before after : List ℕ) (i : ℕ) (x h : Hits) → x ≡ hits_at before i → Stored before after i h → h.sharing ≤ x.sharing + 1 → Grown before after 1
grown_stored before after i x h e t l = record { each = λ j. go j (dec_lt j i) (dec_lt i j) }
  where
    other : (j : ℕ) → (j ≡ i → ⊥) → (hits_at after j).sharing ≤ (hits_at before j).sharing + 1
    other j d = let q = ap (λ (x : Hits). x.sharing) (t.others j d) in omega arith

    go : (j : ℕ) → Dec (j < i) → Dec (i < j) → (hits_at after j).sharing ≤ (hits_at before j).sharing + 1
    go j (yes d) f = other j (λ q. omega arith)
    go j (no d) (yes f) = other j (λ q. omega arith)
    go j (no d) (no f) =
        let z : j ≡ i = omega arith in
        let q = ap (λ (x : Hits). x.sharing) t.here in
        let p = ap (λ (x : Hits). x.sharing) e in
        rw z (omega arith)
