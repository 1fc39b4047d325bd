-- What a walk has kept at its end answers the question.
use Prim.Native.Nat.{ℕ, zero, suc, ◌+◌, ◌<◌}
use mathlib.Core.Path.{◌≡◌, refl, sym, ◌∙◌, ap}
use mathlib.Core.Bool.{Bool, true, false, cond}
use mathlib.Core.Option.{Option, none, some}
use mathlib.Core.List.{List, [], ◌∷◌}
use native.Mathlib.Omega.{arith}
use lib.ListN.{length, get_elem?}
use lib.Dec.{eqb}
use borrow.Author.Tests.{eq-eqb, ne_eqb}
use Rattle.wire.specs.Word.{word}
use Rattle.wire.proofs.Laws.{word-drop}
use Rattle.stackmap.specs.Section.{is_old, read_record, Record, record_fields, Owner, Entry, address, entries_from, entries}
use Rattle.stackmap.specs.Walk.{owner_by, owner_at, entry_at}
use Rattle.stackmap.specs.Fields.{size}
use Rattle.stackmap.proofs.Back.{record_size_lem}
use Rattle.stackmap.proofs.Entries.{entries-are}
use Rattle.stackmap.proofs.OneWalk.{fold}
use Rattle.questions.specs.declared.Found.{Found}
use Rattle.questions.specs.declared.Hits.{Hits}
use Rattle.questions.specs.declared.Stretch.{Stretch}
use Rattle.questions.specs.declared.Located.{Located}
use Rattle.questions.specs.Kept.{no_hits, noted, no_stretch, picked}
use Rattle.questions.specs.Questions.{among, with_address, not_found, first_of, not_located, located}

-- By address.

pub here-address : (s : List ℕ) (index function at : ℕ)
    → address (entry_at s index function at) ≡ (owner_at s function).function.address + word 4 s (at + 8)
unfolding address read_record
here-address s index function at = rw (word-drop 4 at s 8)

-- an owner has the number that it is asked for by
owner-number : (old : Bool) (s : List ℕ) (i : ℕ) → (owner_by old s i).number ≡ i
unfolding owner_by
owner-number true s i = refl
owner-number false s i = refl

-- the answer, by what was kept
abbrev pub hits_answer : Bool → Hits → Found
hits_answer true h = not_found 10 0
hits_answer false h = record { number = 0; place = 0; index = h.index; function = h.function; sharing = h.sharing; first = h.first }

module _ (a : ℕ) where
  pub passed : (e : Entry) (h : Hits) → eqb (address e) a ≡ false → noted a e h ≡ h
  unfolding noted
  passed e h q = rw q

  pub again : (e : Entry) (h : Hits) → eqb (address e) a ≡ true → eqb h.sharing 0 ≡ false
      → noted a e h ≡ record { index = h.index; function = h.function; sharing = suc h.sharing; first = h.first }
  unfolding noted
  again e h q z = rw (q, z)

  -- after the first hit only the count grows
  more : (es : List Entry) (i f n p : ℕ) → 0 < n
      → fold (noted a) es (record { index = i; function = f; sharing = n; first = p })
      ≡ record { index = i; function = f; sharing = n + length (with_address a es); first = p }
  unfolding with_address
  more [] i f n p l = let z : n + 0 ≡ n = omega arith in rw z
  more (e ∷ es) i f n p l = go (λ m k. more es i f m p k) (eqb (address e) a) refl
    where
      go : ((m : ℕ) → 0 < m → fold (noted a) es (record { index = i; function = f; sharing = m; first = p })
          ≡ record { index = i; function = f; sharing = m + length (with_address a es); first = p })
          → (b : Bool) → eqb (address e) a ≡ b
          → fold (noted a) es (noted a e (record { index = i; function = f; sharing = n; first = p }))
          ≡ record {
            index = i;
            function = f;
            sharing = n + length (cond (eqb (address e) a) (e ∷ with_address a es) (with_address a es));
            first = p;
          }
      go rest true q =
          let z : n + suc (length (with_address a es)) ≡ suc n + length (with_address a es) = omega arith in
          rw (again e (record { index = i; function = f; sharing = n; first = p }) q (ne_eqb n 0 (λ k. omega arith)), q, z) (rest (suc n) (omega arith))
      go rest false q = rw (passed e (record { index = i; function = f; sharing = n; first = p }) q, q) (rest n l)

  pub fresh : (e : Entry) (h : Hits) → eqb (address e) a ≡ true → eqb h.sharing 0 ≡ true
      → noted a e h ≡ record { index = e.number; function = e.owner.number; sharing = 1; first = e.first }
  unfolding noted
  fresh e h q z = rw (q, z)

  pub fresh_at : (s : List ℕ) (index function at : ℕ) (h : Hits) → eqb (address (entry_at s index function at)) a ≡ true → eqb h.sharing 0 ≡ true
      → noted a (entry_at s index function at) h ≡ record { index = index; function = function; sharing = 1; first = at }
  fresh_at s index function at h q z = fresh (entry_at s index function at) h q z ∙ rw (owner-number (is_old s) s function)

  pub hits_answer_lem : (es : List Entry) → hits_answer (eqb (fold (noted a) es no_hits).sharing 0) (fold (noted a) es no_hits) ≡ first_of (with_address a es)
  unfolding with_address
  hits_answer_lem [] = refl
  hits_answer_lem (e ∷ es) = go (hits_answer_lem es) (eqb (address e) a) refl
    where
      go : hits_answer (eqb (fold (noted a) es no_hits).sharing 0) (fold (noted a) es no_hits) ≡ first_of (with_address a es)
          → (b : Bool) → eqb (address e) a ≡ b
          → hits_answer (eqb (fold (noted a) es (noted a e no_hits)).sharing 0) (fold (noted a) es (noted a e no_hits))
          ≡ first_of (cond (eqb (address e) a) (e ∷ with_address a es) (with_address a es))
      go rest true q =
          let z : 1 + length (with_address a es) ≡ suc (length (with_address a es)) = omega arith in
          rw (fresh e no_hits q refl, more es e.number e.owner.number 1 e.first (omega arith), z, q, ne_eqb (suc (length (with_address a es))) 0 (λ k. omega arith))
      go rest false q = rw (passed e no_hits q, q) rest

  pub found_none : (es : List Entry) (h : Hits) → fold (noted a) es no_hits ≡ h → h.sharing ≡ 0 → first_of (with_address a es) ≡ not_found 10 0
  found_none es h e z = sym (hits_answer_lem es) ∙ rw (e, eq-eqb _ _ z)

  pub found_some : (es : List Entry) (h : Hits) → fold (noted a) es no_hits ≡ h → (h.sharing ≡ 0 → ⊥) → first_of (with_address a es) ≡ hits_answer false h
  found_some es h e z = sym (hits_answer_lem es) ∙ rw (e, ne_eqb _ _ z)

-- By number.

module _ (old : Bool) (k : ℕ) where
  pub picked-other : (e : Entry) (h : Stretch) → (e.number ≡ k → ⊥) → picked old k e h ≡ h
  unfolding picked
  picked-other e h n = rw (ne_eqb _ _ n)

  pub picked_this : (e : Entry) (h : Stretch) → e.number ≡ k → picked old k e h ≡ record { first = e.first; size = size (record_fields old e.body) }
  unfolding picked
  picked_this e h n = rw (eq-eqb _ _ n)

  -- a record that was passed is not seen again
  past : (rs : List Record) (os : List Owner) (i at : ℕ) (h : Stretch) → k < i → fold (picked old k) (entries_from old i at os rs) h ≡ h
  unfolding entries_from
  past rs [] i at h l = refl
  past [] (o ∷ os) i at h l = refl
  past (r ∷ rs) (o ∷ os) i at h l =
      ap (λ (g : Stretch). fold (picked old k) (entries_from old (suc i) (at + size (record_fields old r)) os rs) g)
      (picked-other (record { number = i; first = at; owner = o; body = r }) h (λ (e : i ≡ k). omega arith))
      ∙ past rs os (suc i) (at + size (record_fields old r)) h (omega arith)

  -- the record number i + j
  abbrev stretch_of : Stretch → Option Entry → Stretch
  stretch_of h none = h
  stretch_of h (some e) = record { first = e.first; size = size (record_fields old e.body) }

  reach : (rs : List Record) (os : List Owner) (i at j : ℕ) (h : Stretch) → i + j ≡ k
      → fold (picked old k) (entries_from old i at os rs) h ≡ stretch_of h (get_elem? (entries_from old i at os rs) j)
  unfolding entries_from
  reach rs [] i at j h e = refl
  reach [] (o ∷ os) i at j h e = refl
  reach (r ∷ rs) (o ∷ os) i at zero h e =
      ap (λ (g : Stretch). fold (picked old k) (entries_from old (suc i) (at + size (record_fields old r)) os rs) g)
      (picked_this (record { number = i; first = at; owner = o; body = r }) h (omega arith))
      ∙ past rs os (suc i) (at + size (record_fields old r)) (record { first = at; size = size (record_fields old r) }) (omega arith)
  reach (r ∷ rs) (o ∷ os) i at (suc j) h e =
      ap (λ (g : Stretch). fold (picked old k) (entries_from old (suc i) (at + size (record_fields old r)) os rs) g)
      (picked-other (record { number = i; first = at; owner = o; body = r }) h (λ (z : i ≡ k). omega arith))
      ∙ reach rs os (suc i) (at + size (record_fields old r)) j h (omega arith)

  -- no record is empty
  not_empty : (e : Entry) → 0 < size (record_fields old e.body)
  not_empty e = rw (record_size_lem old e.body) (omega arith)

  abbrev pub stretch_answer : Bool → Stretch → Located
  stretch_answer true h = not_located 10 0
  stretch_answer false h = record { number = 0; place = 0; first = h.first; size = h.size }

  answered : (x : Option Entry) → stretch_answer (eqb (stretch_of no_stretch x).size 0) (stretch_of no_stretch x) ≡ among (not_located 10 0) (located old) x
  answered none = refl
  answered (some e) = let n = not_empty e in rw (ne_eqb (size (record_fields old e.body)) 0 (λ z. omega arith))

  answer-from : (rs : List Record) (os : List Owner) (at : ℕ)
      → stretch_answer (eqb (fold (picked old k) (entries_from old 0 at os rs) no_stretch).size 0) (fold (picked old k) (entries_from old 0 at os rs) no_stretch)
      ≡ among (not_located 10 0) (located old) (get_elem? (entries_from old 0 at os rs) k)
  answer-from rs os at = rw (reach rs os 0 at k no_stretch (omega arith)) (answered (get_elem? (entries_from old 0 at os rs) k))

module _ (k : ℕ) (s : List ℕ) where
  kept-answer : stretch_answer (is_old s) k (eqb (fold (picked (is_old s) k) (entries s) no_stretch).size 0) (fold (picked (is_old s) k) (entries s) no_stretch)
      ≡ among (not_located 10 0) (located (is_old s)) (get_elem? (entries s) k)
  kept-answer = rw (entries-are s) (answer-from (is_old s) k _ _ _)

  pub located-none : (h : Stretch) → fold (picked (is_old s) k) (entries s) no_stretch ≡ h → h.size ≡ 0
      → among (not_located 10 0) (located (is_old s)) (get_elem? (entries s) k) ≡ not_located 10 0
  located-none h e z = sym kept-answer ∙ rw (e, eq-eqb _ _ z)

  pub located-some : (h : Stretch) → fold (picked (is_old s) k) (entries s) no_stretch ≡ h → (h.size ≡ 0 → ⊥)
      → among (not_located 10 0) (located (is_old s)) (get_elem? (entries s) k) ≡ stretch_answer (is_old s) k false h
  located-some h e z = sym kept-answer ∙ rw (e, ne_eqb _ _ z)
