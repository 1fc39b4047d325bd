-- What a search tells of the section, and of the records that it was for.
use Prim.Native.Nat.{ℕ, ◌+◌, ◌<◌}
use mathlib.Core.Path.{◌≡◌, refl, sym, ap, ◌∙◌}
use mathlib.Core.Bool.{Bool, true, false, cond, not, ◌&&◌, true≢false}
use mathlib.Core.Logic.{⊎_elim}
use mathlib.Core.List.Memᴰ
use mathlib.Core.List.{List, [], ◌∷◌, Memᴰ}
use native.Mathlib.Omega.{arith}
use native.Mathlib.Decide.{dec_lt}
use borrow.Author.Tests.{ne_eqb, le-leb, lt-leb}
use lib.Dec.{eqb}
use lib.ListN.{length}
use Rattle.stackmap.specs.Verdict.{Verdict}
use Rattle.stackmap.specs.Verdict.{Valid, Refused}
use Rattle.stackmap.specs.Section.{Function, Owner, Entry, address, num_functions, is_old, read_function, entries}
use Rattle.stackmap.specs.Check.{section_check, Accepted}
use Rattle.stackmap.specs.Walk.{function_at, function_number}
use Rattle.stackmap.proofs.Parts.{function-there, function-absent, function-number}
use Rattle.stackmap.proofs.Numbers.{Numbered, section-numbered}
use Rattle.stackmap.proofs.Forth.{accepted-length}
use Rattle.stackmap.proofs.Entries.{entry-owner, entry-nobody}
use Rattle.questions.specs.declared.Found.{Found}
use Rattle.questions.specs.Kept.{searched, named_found, of_section}
use Rattle.questions.specs.Questions.{ask, with_address, not_found, first_of, at_offset, of_function, sought}

never : ◌≡◌ {A = Bool} true false → ⊥
never h = true≢false h

-- The section's verdict.

refused-by : {A : Type 0} (refused : ℕ → ℕ → A) (k : A) (v : Verdict) (es : List Entry) → of_section (ask not_found (first_of es) v) ≡ true
    → ask refused k v ≡ refused (ask not_found (first_of es) v).number (ask not_found (first_of es) v).place
unfolding ask of_section
refused-by refused k (Refused n p) es h = refl
refused-by refused k (Valid e) [] h = absurd (never (sym h))
refused-by refused k (Valid e) (x ∷ es) h = absurd (never (sym h))

valid-by : (v : Verdict) (es : List Entry) → Numbered 9 v → of_section (ask not_found (first_of es) v) ≡ false
    → (e : ℕ) × (v ≡ Valid e)
unfolding ask of_section
valid-by (Refused n p) es a h =
    let b = a.above in
    let c = a.low in
    let t : (not (eqb n 0) && not (eqb n 10)) ≡ true = rw (ne_eqb n 0 (λ q. omega arith), ne_eqb n 10 (λ q. omega arith)) in
    absurd (never (sym t ∙ h))
valid-by (Valid e) es a h = (e, refl)

pub asked : {A : Type 0} (refused : ℕ → ℕ → A) (k : A) (s : List ℕ) → Accepted s → ask refused k (section_check s) ≡ k
unfolding ask
asked refused k s h = rw h

module _ (s : List ℕ) (a : ℕ) (r : Found) (e : r ≡ searched s a) where
  pub section-refused : {A : Type 0} (refused : ℕ → ℕ → A) (k : A) → of_section r ≡ true → ask refused k (section_check s) ≡ refused r.number r.place
  unfolding searched
  section-refused refused k h = rw e (refused-by refused k (section_check s) (with_address a (entries s)) (rw e at h))

  valid : of_section r ≡ false → (n : ℕ) × (section_check s ≡ Valid n)
  unfolding searched
  valid h = valid-by (section_check s) (with_address a (entries s)) (section-numbered s) (rw e at h)

  pub section-accepted : of_section r ≡ false → Accepted s
  section-accepted h = let v = valid h in v.1 ∙ ap Valid (accepted-length s v.0 v.1).0

  pub first_found : of_section r ≡ false → r ≡ first_of (with_address a (entries s))
  unfolding searched ask
  first_found h = let v = valid h in e ∙ rw v.1

-- The function that is named beside it.

-- records, as those of one owner
unfoldable owned_by : Owner → List Entry → List Entry
owned_by o [] = []
owned_by o (e ∷ es) = record { number = e.number; first = e.first; owner = o; body = e.body } ∷ owned_by o es

length-owned : (o : Owner) (es : List Entry) → length (owned_by o es) ≡ length es
unfolding owned_by
length-owned o [] = refl
length-owned o (e ∷ es) = rw (length-owned o es)

-- what was found, of one owner
owned-found : (o : Owner) (es : List Entry) (r : Found) → r ≡ first_of es
    → cond (eqb r.number 0) (record { number = 0; place = 0; index = r.index; function = o.number; sharing = r.sharing; first = r.first }) r
    ≡ first_of (owned_by o es)
unfolding owned_by
owned-found o [] r e = rw e
owned-found o (x ∷ es) r e = rw (e, length-owned o es)

-- where every record's address is its offset, those at an offset are those with the address
offset-owned : (a : ℕ) (o : Owner) (es : List Entry) → ((e : Entry) → Memᴰ e es → address e ≡ e.body.offset)
    → at_offset a o es ≡ owned_by o (with_address a es)
unfolding at_offset owned_by with_address
offset-owned a o [] h = refl
offset-owned a o (e ∷ es) h =
    rw (h e (Memᴰ.head refl)) (go (eqb e.body.offset a) (offset-owned a o es (λ x m. h x (Memᴰ.tail m))))
  where
    go : (b : Bool) → at_offset a o es ≡ owned_by o (with_address a es)
        → cond b (record { number = e.number; first = e.first; owner = o; body = e.body } ∷ at_offset a o es) (at_offset a o es)
        ≡ owned_by o (cond b (e ∷ with_address a es) (with_address a es))
    go true i = rw i
    go false i = i

-- so it is in version 1
old-address : (s : List ℕ) → is_old s ≡ true → (e : Entry) → Memᴰ e (entries s) → address e ≡ e.body.offset
unfolding address
old-address s old e m = rw (entry-nobody s old e m) (omega arith)

-- one search, and the function that is named, give what is sought in either version
pub named-sought : (s : List ℕ) (g a : ℕ) (r : Found) → r ≡ first_of (with_address a (entries s))
    → named_found (is_old s) (num_functions s) g r ≡ first_of (sought s g a)
unfolding sought of_function named_found
named-sought s g a r e = go (is_old s) refl (dec_lt g (num_functions s))
  where
    go : (old : Bool) → is_old s ≡ old → Dec (g < num_functions s) → named_found (is_old s) (num_functions s) g r ≡ first_of (sought s g a)
    go false q d = rw q e
    go true q (yes l) =
        let f : Owner = record { number = g; function = read_function (is_old s) s (function_at (is_old s) g) } in
        rw (function-there s g l, offset-owned a f (entries s) (old-address s q), q, lt-leb (num_functions s) g l) (owned-found _ (with_address a (entries s)) r e)
    go true q (no l) = rw (function-absent s g (omega arith), q, le-leb (num_functions s) g (omega arith))

-- Where exactly one record is found: it is a record of the section, and its owner is a function of the section.

pub record One (s : List ℕ) (e : Entry) : Type 0 where
  pub entry : Entry
  pub member : Memᴰ entry (entries s)
  pub first_is : e.first ≡ entry.first
  pub body_is : e.body ≡ entry.body
  pub owner-there : e.owner.number < num_functions s
  pub function_is : e.owner.function ≡ function_number s e.owner.number

from_entries : (a : ℕ) (es : List Entry) (e : Entry) → Memᴰ e (with_address a es) → Memᴰ e es
unfolding with_address
from_entries a [] e m = m
from_entries a (x ∷ es) e m = go (from_entries a es e) (eqb (address x) a) refl
  where
    go : (Memᴰ e (with_address a es) → Memᴰ e es) → (b : Bool) → eqb (address x) a ≡ b → Memᴰ e (x ∷ es)
    go rest true q = ⊎_elim (λ h. Memᴰ.head h) (λ h. Memᴰ.tail (rest h)) (Memᴰ.cases_cons (rw q at m))
    go rest false q = Memᴰ.tail (rest (rw q at m))

-- e is one of the entries, as one of the owner o
abbrev OwnedFrom : Owner → Entry → List Entry → Type 0
OwnedFrom o e es = (x : Entry) × Memᴰ x es × (e ≡ record { number = x.number; first = x.first; owner = o; body = x.body })

from-offset : (a : ℕ) (o : Owner) (es : List Entry) (e : Entry) → Memᴰ e (at_offset a o es) → OwnedFrom o e es
unfolding at_offset
from-offset a o [] e m = absurd (Memᴰ.not-nil m)
from-offset a o (x ∷ es) e m = go (from-offset a o es e) (eqb x.body.offset a) refl
  where
    later : OwnedFrom o e es → OwnedFrom o e (x ∷ es)
    later h = (h.0, Memᴰ.tail h.1, h.2)

    go : (Memᴰ e (at_offset a o es) → OwnedFrom o e es) → (b : Bool) → eqb x.body.offset a ≡ b → OwnedFrom o e (x ∷ es)
    go rest true q = ⊎_elim (λ h. (x, Memᴰ.head refl, h)) (λ h. later (rest h)) (Memᴰ.cases_cons (rw q at m))
    go rest false q = later (rest (rw q at m))

module _ (s : List ℕ) (g a : ℕ) (e : Entry) where
  alone : (x : Entry) → with_address a (entries s) ≡ x ∷ [] → Memᴰ x (entries s)
  alone x h = from_entries a (entries s) x (rw h (Memᴰ.head refl))

  one-new : is_old s ≡ false → with_address a (entries s) ≡ e ∷ [] → One s e
  one-new new h =
      let m = alone e h in
      let o = entry-owner s new e m in
      let q : e.owner.function ≡ read_function (is_old s) s (function_at (is_old s) e.owner.number) = rw new o.1 in
      record { entry = e; member = m; first_is = refl; body_is = refl; owner-there = o.0; function_is = q ∙ sym (function-number s _ o.0) }

  one-old : (f : Function) → f ≡ read_function (is_old s) s (function_at (is_old s) g) → g < num_functions s
      → at_offset a (record { number = g; function = f }) (entries s) ≡ e ∷ [] → One s e
  one-old f q l h =
      let o = from-offset a (record { number = g; function = f }) (entries s) e (rw h (Memᴰ.head refl)) in
      rw o.2 (record { entry = o.0; member = o.1; first_is = refl; body_is = refl; owner-there = l; function_is = q ∙ sym (function-number s g l) })

  pub sought-one : sought s g a ≡ e ∷ [] → One s e
  unfolding sought of_function
  sought-one h = go (is_old s) refl (dec_lt g (num_functions s))
    where
      go : (old : Bool) → is_old s ≡ old → Dec (g < num_functions s) → One s e
      go false q d = one-new q (rw q at h)
      go true q (yes l) = one-old _ refl l (rw (function-there s g l) at (rw q at h))
      go true q (no l) = absurd (let w : [] ≡ e ∷ [] = rw (function-absent s g (omega arith)) at (rw q at h) in let z : ◌≡◌ {A = ℕ} 0 1 = cc in omega arith)
