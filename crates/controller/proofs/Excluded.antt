-- A section that keeps the profile gives no 12, 15 and 18, and 17 only where fewer than 16 pointers are allowed.
use Prim.Native.Nat.{ℕ, suc, ◌≤◌}
use mathlib.Core.Path.{◌≡◌, refl, sym, ◌∙◌}
use mathlib.Core.Bool.{Bool, true, false, cond}
use mathlib.Core.Option.{Option, none, some}
use mathlib.Core.List.{List, [], ◌∷◌, map, flatten}
use native.Mathlib.Omega.{arith}
use borrow.Author.Tests.{ltb-true, leb-true, leb-false, ne_eqb, eqb-true}
use lib.Dec.{eqb, leb, ltb}
use lib.ListN.{length}
use Rattle.stackmap.specs.Verdict.{need}
use Rattle.stackmap.specs.Section.{Record, Entry, is_old, read_section, address, entries}
use Rattle.stackmap.proofs.Tests.{and_true}
use Rattle.questions.specs.Questions.{ask, with_address, sought}
use Rattle.moves.specs.Slots.{State, state}
use Rattle.moves.specs.Pointers.{Pointer}
use Rattle.moves.specs.Window.{part}
use Rattle.moves.specs.Settle.{refused_move, accepted_move, at_lowest, first20, first21, settled}
use Rattle.moves.specs.Table.{table_right, look_up}
use Rattle.moves.specs.Plan.{Plan, refuse, window, says}
use Rattle.relocate.specs.declared.Cursor.{Cursor}
use Rattle.relocate.specs.declared.Machine.TheVariants.{Amd64}
use Rattle.relocate.specs.Restore.{Restore, allowed}
use Rattle.relocate.specs.Stopped.{Stopped, registers_right, cursor}
use Rattle.relocate.specs.Statepoint.{is_statepoint, Pair, pairs, right_form, pointers_of}
use Rattle.relocate.specs.Plan.{records_of, only, every, image_right, stack_size, extent_right, plan_pairs, plan_record, plan}
use Rattle.relocate.specs.Relocation.{answer}
use Rattle.relocate.proofs.Planned.{every_yes, every_no}
use Rattle.relocate_pairs.proofs.Counting.{pointers_length}
use Rattle.controller.specs.Profile.{pointers_most, records_most, all_of, passes18, some_frame, pointer_count, above, keeps, first_breach}
use Rattle.controller.specs.Laws.{Excluded}
use Rattle.controller.proofs.Pairs.{every-all}
use Rattle.controller.proofs.Profiles.{Profiled}

-- what a record that keeps the profile is
pub record KeptBody (pool : List ℕ) (r : Record) : Type 0 where
  pub statepoint : is_statepoint r ≡ true
  pub forms : passes18 pool r ≡ true
  pub few : pointer_count pool r ≤ pointers_most

module _ (pool : List ℕ) where
  kept-body : (before : Option ℕ) (e : Entry) → keeps pool before e ≡ true → (above before (address e) ≡ true) × KeptBody pool e.body
  unfolding keeps
  kept-body before e h =
      let a = and_true (ltb e.number records_most) _ h in
      let b = and_true (above before (address e)) _ a.1 in
      let c = and_true (is_statepoint e.body) _ b.1 in
      let d = and_true (passes18 pool e.body) _ c.1 in
      (b.0, record { statepoint = c.0; forms = d.0; few = leb-true _ _ d.1 })

  -- no record has a breach, so the first has none, nor have the others
  first-kept : (before : Option ℕ) (e : Entry) (es : List Entry) → first_breach pool before (e ∷ es) ≡ none
      → (keeps pool before e ≡ true) × (first_breach pool (some (address e)) es ≡ none)
  unfolding first_breach
  first-kept before e es h = go (keeps pool before e) h
    where
      go : (b : Bool) → cond b (first_breach pool (some (address e)) es) (some e.number) ≡ none
          → (b ≡ true) × (first_breach pool (some (address e)) es ≡ none)
      go true h = (refl, h)
      go false h = absurd (let z : ◌≡◌ {A = ℕ} 0 1 = cc in omega arith)

  -- the addresses rise, so that none is met again
  later_none : (a b : ℕ) (es : List Entry) → first_breach pool (some b) es ≡ none → a ≤ b → with_address a es ≡ []
  unfolding with_address
  later_none a b [] h l = refl
  later_none a b (e ∷ es) h l =
      let f = first-kept (some b) e es h in
      let r = kept-body (some b) e f.0 in
      let g = ltb-true b (address e) r.0 in
      rw (ne_eqb (address e) a (λ q. omega arith)) (later_none a (address e) es f.1 (omega arith))

  -- no record, or one that keeps the profile
  pub data AtMostOne : List Entry → Type 0 where
    no_record : AtMostOne []
    one_record : (e : Entry) → KeptBody pool e.body → AtMostOne (e ∷ [])

  pub at_most_one : (a : ℕ) (before : Option ℕ) (es : List Entry) → first_breach pool before es ≡ none → AtMostOne (with_address a es)
  unfolding with_address
  at_most_one a before [] h = no_record
  at_most_one a before (e ∷ es) h = go (eqb (address e) a) refl (first-kept before e es h) (at_most_one a (some (address e)) es)
    where
      go : (t : Bool) → eqb (address e) a ≡ t → (keeps pool before e ≡ true) × (first_breach pool (some (address e)) es ≡ none)
          → (first_breach pool (some (address e)) es ≡ none → AtMostOne (with_address a es))
          → AtMostOne (cond t (e ∷ with_address a es) (with_address a es))
      go true q f ih =
          let z : a ≡ address e = sym (eqb-true _ _ q) in
          rw (later_none a (address e) es f.1 (omega arith)) (one_record e (kept-body before e f.0).1)
      go false q f ih = ih f.1

-- A plan that is a window, or a refusal with another number.

pub other : (R : Restore) (n : ℕ) → (n ≡ 12 → ⊥) → (n ≡ 15 → ⊥) → (n ≡ 17 → ⊥) → (n ≡ 18 → ⊥) → Excluded R n
other R n a b c d = record { not_12 = a; not_15 = b; not_18 = d; not_17 = λ l. c }

module _ (R : Restore) where
  abbrev Fine : Plan → Type 0
  Fine (refuse n p) = Excluded R n
  Fine (window off size pss) = Unit {0}

  fine_need : (b : Bool) (n p : ℕ) (k : Plan) → Excluded R n → Fine k → Fine (need b (refuse n p) k)
  fine_need true n p k h f = f
  fine_need false n p k h f = h

  -- the tests before the records
  fine_tests : (a b c d : Bool) (k : Plan) → Fine k
      → Fine (need a (refuse 33 0) (need b (refuse 13 0) (need c (refuse 14 0) (need d (refuse 25 0) k))))
  fine_tests false b c d k f = other R 33 (λ q. omega arith) (λ q. omega arith) (λ q. omega arith) (λ q. omega arith)
  fine_tests true false c d k f = other R 13 (λ q. omega arith) (λ q. omega arith) (λ q. omega arith) (λ q. omega arith)
  fine_tests true true false d k f = other R 14 (λ q. omega arith) (λ q. omega arith) (λ q. omega arith) (λ q. omega arith)
  fine_tests true true true false k f = other R 25 (λ q. omega arith) (λ q. omega arith) (λ q. omega arith) (λ q. omega arith)
  fine_tests true true true true k f = f

  -- 17, of so many pointers
  fine_17 : (count : ℕ) (k : Plan) → count ≤ pointers_most → Fine k → Fine (need (leb count R.settings.most) (refuse 17 0) k)
  fine_17 count k l f = go (leb count R.settings.most) refl
    where
      go : (b : Bool) → leb count R.settings.most ≡ b → Fine (need b (refuse 17 0) k)
      go true e = f
      go false e =
          let m = leb-false count R.settings.most e in
          record { not_12 = λ q. omega arith; not_15 = λ q. omega arith; not_18 = λ q. omega arith; not_17 = λ x q. omega arith }

  fine_every : (good : Pair → Bool) (n i : ℕ) (ps : List Pair) (k : Plan) → Excluded R n → Fine k → Fine (every good n i ps k)
  fine_every good n i [] k h f = unfold every in f
  fine_every good n i (p ∷ ps) k h f = go (good p) refl (fine_every good n (suc i) ps k h f)
    where
      go : (b : Bool) → good p ≡ b → Fine (every good n (suc i) ps k) → Fine (every good n i (p ∷ ps) k)
      go true e g = rw (every_yes good n i p ps k e) g
      go false e g = rw (every_no good n i p ps k e) h

  fine_only : (pool : List ℕ) {es : List Entry} (k : Entry → Plan) → AtMostOne pool es → ((e : Entry) → KeptBody pool e.body → Fine (k e)) → Fine (only es k)
  unfolding only
  fine_only pool k no_record f = other R 10 (λ q. omega arith) (λ q. omega arith) (λ q. omega arith) (λ q. omega arith)
  fine_only pool k (one_record e b) f = f e b

  module _ (new : is_old R.section ≡ false) where
    abbrev pool : List ℕ
    pool = (read_section R.section).constants

    fine_pairs : (f : Cursor) (size : ℕ) (r : Record) → f.machine ≡ Amd64 → KeptBody pool r → Fine (plan_pairs R f size (pairs r))
    unfolding plan_pairs passes18 pointer_count
    fine_pairs f size r a b =
        let g : all_of (right_form f.machine false pool) (pairs r) ≡ true = rw a b.forms in
        let n : length (flatten (map (pointers_of false pool f) (pairs r))) ≤ pointers_most =
        rw (pointers_length false pool f r ∙ sym (pointers_length false pool some_frame r)) b.few in
        rw (new, every-all)
        (fine_17 _ _ n (fine_every _ 19 0 (pairs r) _ (other R 19 (λ q. omega arith) (λ q. omega arith) (λ q. omega arith) (λ q. omega arith)) tt))

    fine_record : (n : ℕ) (f : Cursor) (size : ℕ) (r : Record) → f.machine ≡ Amd64 → KeptBody pool r → Fine (plan_record R n f size r)
    unfolding plan_record
    fine_record n f size r a b =
        rw b.statepoint
        (fine_need (extent_right R.first n f.sp size) 16 0 (plan_pairs R f size (pairs r)) (other R 16 (λ q. omega arith) (λ q. omega arith) (λ q. omega arith) (λ q. omega arith)) (fine_pairs f size r a b))

  fine_plan : (n : ℕ) (st : Stopped) → Profiled st.frame.machine R.section → Fine (plan R n st)
  unfolding plan ask records_of sought cursor
  fine_plan n st p =
      let new = p.new in
      let o = at_most_one (pool new) st.frame.address none (entries R.section) p.none-broken in
      rw (p.accepted, new)
      (fine_tests (allowed R st.frame.machine) (image_right R.first n) (table_right R.olds R.news) (registers_right st.registers)
      (only (with_address st.frame.address (entries R.section)) (λ e. plan_record R n (cursor st) (stack_size e) e.body))
      (fine_only (pool new) (λ e. plan_record R n (cursor st) (stack_size e) e.body) o (λ e b. fine_record new n (cursor st) (stack_size e) e.body p.amd b)))

  -- 20, 21 and 0 are other numbers
  fine_settled : (table : ℕ → Option ℕ) (ps : List Pointer) (w : State) → Excluded R (settled table ps w).number
  unfolding settled at_lowest
  fine_settled table ps w = go (ltb (first20 ps w) (length ps)) (ltb (first21 table ps w) (length ps))
    where
      go : (a b : Bool) → Excluded R (cond a (refused_move 20 (first20 ps w)) (cond b (refused_move 21 (first21 table ps w)) (accepted_move (length ps)))).number
      go true b = other R 20 (λ q. omega arith) (λ q. omega arith) (λ q. omega arith) (λ q. omega arith)
      go false true = other R 21 (λ q. omega arith) (λ q. omega arith) (λ q. omega arith) (λ q. omega arith)
      go false false = other R 0 (λ q. omega arith) (λ q. omega arith) (λ q. omega arith) (λ q. omega arith)

  pub base_excluded : (im : List ℕ) (st : Stopped) → Profiled st.frame.machine R.section → Excluded R (answer R im st).number
  unfolding answer
  base_excluded im st p = go (plan R (length im) st) (fine_plan (length im) st p)
    where
      go : (q : Plan) → Fine q → Excluded R (says (look_up R.olds R.news) im st.registers q).number
      go (refuse n i) h = h
      go (window off size pss) h = fine_settled (look_up R.olds R.news) (flatten pss) (state (part im off size) st.registers)
