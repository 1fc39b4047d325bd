-- What a walk with many addresses tells at its end.
use Prim.Native.Nat.{ℕ, ◌+◌, ◌-◌, ◌^◌, ◌≤◌, ◌<◌}
use mathlib.Core.Path.{◌≡◌, refl, sym, ap, ◌∙◌}
use mathlib.Core.Bool.{Bool, true, false, cond}
use mathlib.Core.List.{List, [], ◌∷◌}
use native.Mathlib.Omega.{arith}
use native.Mathlib.Decide.{dec_lt, ℕ_discrete}
use native.Mathlib.Nat.{zero-add}
use borrow.Author.Tests.{eq-eqb, ne_eqb, leb-true}
use lib.ListN.{length, get_or, drop}
use lib.Dec.{eqb}
use Rattle.wire.specs.Word.{Bytes, word}
use Rattle.wire.proofs.Laws.{word_bound, word-drop}
use Rattle.stackmap.specs.Verdict.{Verdict}
use Rattle.stackmap.specs.Verdict.{Valid, Refused}
use Rattle.stackmap.specs.Verdict.{chain, bind, shift}
use Rattle.stackmap.specs.Section.{num_constants, num_records, is_old, records_at, read_functions, record_owners, Entry, address, read_record, entries}
use Rattle.stackmap.specs.Record.{record_check}
use Rattle.stackmap.specs.Check.{header_check, tables_check, records_check, section_check}
use Rattle.stackmap.specs.Walk.{owner_at, entry_at}
use Rattle.stackmap.proofs.Verdicts.{never, must-held, chain-rest, shift-valid}
use Rattle.stackmap.proofs.Addresses.{same_test, owner_zero}
use Rattle.stackmap.proofs.OneWalk.{fold}
use Rattle.questions.specs.declared.Hits.{Hits}
use Rattle.questions.specs.Questions.{with_address, not_found, first_of}
use Rattle.sorted.specs.Sorted.{Sorted, LowerBound, EntryOf}
use Rattle.questions.specs.Kept.{no_hits, noted}
use Rattle.questions.proofs.Kept.{hits_answer, hits_answer_lem}
use Rattle.questions_find.specs.Scan.{all_records, front_check}
use Rattle.questions_find.proofs.Ends.{front_parts, Fronted, front_whole, front_after}
use Rattle.thread.specs.Code.{hits_at, Holding, found_by, Sought}
use Rattle.thread_marks.specs.From.{noted_one, NotedAll}

-- a valid record's address fits: refusal 8, and in version 1 it is an offset of 32 bits
pub address-fits : (s : List ℕ) (c number function p q : ℕ) → Bytes s → shift p (record_check (is_old s) (drop p s) c (owner_at s function).function.address) ≡ Valid q
    → address (entry_at s number function p) < 2 ^ 64
unfolding record_check address read_record
address-fits s c number function p q w v =
    let x = shift-valid _ _ _ v in
    let k : word 4 (drop p s) 8 < 2 ^ 32 = rw word-drop (word_bound 4 s (p + 8) w) in
    let e = same_test (is_old s) (owner_at s function).function.address (word 4 (drop p s) 8) (owner_zero (is_old s) s function) k in
    let m : (owner_at s function).function.address + word 4 (drop p s) 8 ≤ 2 ^ 64 - 1 = leb-true _ _ (sym e ∙ must-held _ _ _ _ _ (chain-rest _ _ _ x.1)) in
    omega arith

-- The whole walk.

-- counted from the section's own first byte
fold_own : (es : List Entry) (a : ℕ) (h : Hits) → fold (noted_one 0 a) es h ≡ fold (noted a) es h
fold_own [] a h = refl
fold_own (e ∷ es) a h = rw (zero-add e.first) (fold_own es a (noted a e h))

answer_is : (h : Hits) → found_by h ≡ hits_answer (eqb h.sharing 0) h
unfolding found_by
answer_is h = go (eqb h.sharing 0)
  where
    go : (b : Bool) → cond b (not_found 10 0) (hits_answer false h) ≡ hits_answer b h
    go true = refl
    go false = refl

pub sought : (s keys : List ℕ) (n : ℕ) (before hits : List ℕ) → Holding keys n before (λ a. no_hits) → NotedAll keys n before hits 0 (entries s) → Sought s keys n hits
sought s keys n before hits e r =
    record {
      at =
          λ i l b.
          let a = get_or keys i 0 in
          let k : hits_at hits i ≡ fold (noted a) (entries s) no_hits = r.at i l b ∙ fold_own (entries s) a (hits_at before i) ∙ ap (fold (noted a) (entries s)) (e.at i l b) in
          rw k (answer_is (fold (noted a) (entries s) no_hits) ∙ hits_answer_lem a (entries s));
    }

-- An address that was looked for is found at its lower bound.

pub at_bound : {keys : List ℕ} {n x i : ℕ} → Sorted keys n → LowerBound keys n x i → EntryOf keys n x → (i < n) × (get_or keys i 0 ≡ x)
at_bound {keys} {n} {x} {i} s b e = go (dec_lt i e.place)
  where
    go : Dec (i < e.place) → (i < n) × (get_or keys i 0 ≡ x)
    go (yes l) =
        (omega (arith, e.inside), omega (arith, s.order i e.place l e.inside, e.same, b.above i (omega arith) (omega (arith, e.inside))))
    go (no l) = at_place (dec_lt e.place i)
      where
        at_place : Dec (e.place < i) → (i < n) × (get_or keys i 0 ≡ x)
        at_place (yes m) = absurd (omega (arith, b.below e.place m, e.same))
        at_place (no m) = let z : i ≡ e.place = omega arith in (omega (arith, e.inside), rw z e.same)

pub found-there : (s keys : List ℕ) (n : ℕ) (hits : List ℕ) (x i : ℕ) → Sorted keys n → LowerBound keys n x i → EntryOf keys n x → Sought s keys n hits
    → found_by (hits_at hits i) ≡ first_of (with_address x (entries s))
found-there s keys n hits x i o b e q =
    let t = at_bound o b e in
    let c : LowerBound keys n (get_or keys i 0) i = rw t.1 b in
    rw (← t.1) (q.at i t.0 c)

pub found_10 : (g h : Hits) → g ≡ h → g.sharing ≡ 0 → not_found 10 0 ≡ found_by h
unfolding found_by
found_10 g h e z = rw (← e, eq-eqb g.sharing 0 z)

pub found_0 : (g h : Hits) → g ≡ h → (g.sharing ≡ 0 → ⊥) → hits_answer false g ≡ found_by h
unfolding found_by
found_0 g h e z = rw (← e, ne_eqb g.sharing 0 z)

-- The walk's verdict, and the section's.

pub never_valid : {n p e : ℕ} {A : Type 0} → ◌≡◌ {A = Verdict} (Refused n p) (Valid e) → A
never_valid h = never h

-- where c is the number of constants
pub all_are : (s : List ℕ) (c : ℕ) → c ≡ num_constants s → (v : Verdict)
    → records_check (is_old s) (record_owners (is_old s) (num_records s) (read_functions s)) s c (records_at s) ≡ v → v ≡ all_records s
unfolding all_records
all_are s c e v h = sym (rw e at h)

module _ (s : List ℕ) where
  pub front_stop : (n p : ℕ) → chain (header_check s) (tables_check s) ≡ Refused n p → Refused n p ≡ front_check s
  unfolding front_check chain
  front_stop n p h = rw h

  pub front_on : (e : ℕ) → chain (header_check s) (tables_check s) ≡ Valid e → all_records s ≡ front_check s
  unfolding front_check chain
  front_on e h = rw h

  pub section_stop : (n p : ℕ) → front_check s ≡ Refused n p → Refused n p ≡ section_check s
  unfolding bind
  section_stop n p h = sym (front_parts s ∙ rw h)

  -- 9 where bytes follow the last record
  pub section-end : (p : ℕ) (v : Verdict) → front_check s ≡ Valid p → (p ≡ length s → v ≡ Valid p) → ((p ≡ length s → ⊥) → v ≡ Refused 9 p) → v ≡ section_check s
  section-end p v h whole after = go (ℕ_discrete p (length s))
    where
      f : Fronted s 0 p (fold (noted 0) (entries s) no_hits)
      f = record { front = h; kept = refl }

      go : Dec (p ≡ length s) → v ≡ section_check s
      go (yes q) = whole q ∙ ap Valid q ∙ sym (front_whole f q)
      go (no q) = after q ∙ sym (front_after f q)
