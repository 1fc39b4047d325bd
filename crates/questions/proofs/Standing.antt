-- A question about a record by its number, from where the record stands.
use Prim.Native.Nat.{ℕ, zero, suc, ◌≤◌}
use mathlib.Core.Path.{◌≡◌, refl, sym, ◌∙◌}
use mathlib.Core.Option.{Option, none, some}
use mathlib.Core.List.{List, [], ◌∷◌, Memᴰ}
use native.Mathlib.Omega.{arith}
use lib.ListN.{length, drop, get_elem?}
use Rattle.stackmap.specs.Verdict.{Verdict}
use Rattle.stackmap.specs.Verdict.{Valid, Refused}
use Rattle.stackmap.specs.Section.{is_old, records_at, record_length, read_record, Entry, entries}
use Rattle.stackmap.specs.Check.{section_check}
use Rattle.stackmap.proofs.Verdicts.{chain_first}
use Rattle.stackmap.proofs.Forth.{read-size}
use Rattle.stackmap.proofs.Entries.{entry-body}
use Rattle.stackmap.proofs.Numbers.{Numbered, section-numbered}
use Rattle.stackmap.proofs.Within.{begin_held, section_parts}
use Rattle.questions.specs.declared.Located.{Located}
use Rattle.questions.specs.Questions.{ask, among, not_located, located, record_place}

-- what stands at a place of a list is in it
at_member : {A : Type 0} (xs : List A) (j : ℕ) (x : A) → get_elem? xs j ≡ some x → Memᴰ x xs
at_member [] j x h = absurd (let z : ◌≡◌ {A = ℕ} 0 1 = cc in omega arith)
at_member (y ∷ ys) zero x h = Memᴰ.head (let e : x ≡ y = cc in e)
at_member (y ∷ ys) (suc j) x h = Memᴰ.tail (at_member ys j x h)

-- the tables of an accepted section are inside
pub tables-inside : (s : List ℕ) (e : ℕ) → section_check s ≡ Valid e → records_at s ≤ length s
tables-inside s e h = (begin_held s _ (chain_first _ _ _ (sym (section_parts s) ∙ h)).1).inside

module _ {A : Type 0} (refused : ℕ → ℕ → A) (found : Entry → A) (s : List ℕ) (k : ℕ) where
  abbrev asking : Verdict → Option Entry → A
  asking v x = ask refused (among (refused 10 0) found x) v

  abbrev standing : Verdict → Option Entry → Located
  standing v x = ask not_located (among (not_located 10 0) (located (is_old s)) x) v

  same-refusal : (v : Verdict) (x : Option Entry) → ((standing v x).number ≡ 0 → ⊥) → asking v x ≡ refused (standing v x).number (standing v x).place
  unfolding ask
  same-refusal (Refused n p) x h = refl
  same-refusal (Valid e) none h = refl
  same-refusal (Valid e) (some x) h = absurd (h refl)

  -- no record stands there: the question's refusal is that of the record's place
  asked-refused : ((record_place s k).number ≡ 0 → ⊥)
      → ask refused (among (refused 10 0) found (get_elem? (entries s) k)) (section_check s) ≡ refused (record_place s k).number (record_place s k).place
  unfolding record_place
  asked-refused h = same-refusal (section_check s) (get_elem? (entries s) k) h

  -- a record stands there
  pub record Here (first size : ℕ) : Type 0 where
    pub entry : Entry
    pub answer : ask refused (among (refused 10 0) found (get_elem? (entries s) k)) (section_check s) ≡ found entry
    pub body : entry.body ≡ read_record (is_old s) (drop first s)
    pub long : record_length (is_old s) (drop first s) ≡ size
    pub inside : records_at s ≤ length s

  asked_here : (v : Verdict) → section_check s ≡ v → (x : Option Entry) → get_elem? (entries s) k ≡ x → Numbered 9 v → (standing v x).number ≡ 0
      → Here (standing v x).first (standing v x).size
  unfolding ask
  asked_here (Refused n p) e x m a h = absurd (let z = a.above in omega arith)
  asked_here (Valid n) e none m a h = absurd (omega arith)
  asked_here (Valid n) e (some y) m a h =
      let b = entry-body s y (at_member (entries s) k y m) in
      record {
        entry = y;
        answer = rw (e, m);
        body = b;
        long = sym (read-size (is_old s) (drop y.first s)) ∙ rw (← b);
        inside = tables-inside s n e;
      }

  asked-found : (record_place s k).number ≡ 0 → Here (record_place s k).first (record_place s k).size
  unfolding record_place
  asked-found h = asked_here (section_check s) refl (get_elem? (entries s) k) refl (section-numbered s) h

  -- the same of what says where the record stands
  pub refused-at : (l : Located) → l ≡ record_place s k → (l.number ≡ 0 → ⊥)
      → ask refused (among (refused 10 0) found (get_elem? (entries s) k)) (section_check s) ≡ refused l.number l.place
  refused-at l e h = rw e (asked-refused (rw e at h))

  pub found_at : (l : Located) → l ≡ record_place s k → l.number ≡ 0 → Here l.first l.size
  found_at l e h = rw e (asked-found (rw e at h))
