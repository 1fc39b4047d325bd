-- What a plan that is a window tells.
use Prim.Native.Nat.{ℕ, zero, suc, ◌+◌, ◌*◌, ◌-◌, ◌≤◌, ◌<◌}
use mathlib.Core.Path.{◌≡◌, refl, sym, ap, ◌∙◌}
use mathlib.Core.Bool.{Bool, true, false, not, ◌&&◌, ◌||◌, true≢false}
use mathlib.Core.Logic.{◌⊎◌, inl, inr, ⊎_elim}
use mathlib.Core.Option.{Option, none, some}
use mathlib.Core.List.{List, [], ◌∷◌, map, flatten, Memᴰ}
use native.Mathlib.Omega.{arith}
use native.Mathlib.Nat.{not-suc-le-zero}
use borrow.Author.Tests.{eqb-true, eqb-false, leb-true, ltb-true}
use lib.Dec.{eqb, leb, ltb}
use lib.ListN.{length}
use Rattle.stackmap.specs.Verdict.{Valid}
use Rattle.stackmap.specs.Layout.{stack_size_unknown}
use Rattle.stackmap.specs.Verdict.{need}
use Rattle.stackmap.specs.Section.{Location, Entry, is_old, read_section}
use Rattle.stackmap.specs.Check.{section_check}
use Rattle.stackmap.proofs.Tests.{and_true, not-true}
use Rattle.moves.specs.Slots.{Slot, memory, register}
use Rattle.moves.specs.Pointers.{Pointer, null, slots, or_zero}
use Rattle.moves.specs.Table.{table_right}
use Rattle.moves.specs.Plan.{Plan, refuse, window}
use Rattle.moves.proofs.Blocks.{in_block, of_block}
use Rattle.moves.proofs.Cells.{SlotIn}
use Rattle.moves.proofs.Words.{from_image}
use Rattle.moves.proofs.Lists.{Sound}
use Rattle.relocate.specs.declared.Cursor.{Cursor}
use Rattle.relocate.specs.declared.Machine.{Machine}
use Rattle.relocate.specs.declared.Machine.TheVariants.{Amd64, Aarch64}
use Rattle.questions.specs.Questions.{ask}
use Rattle.relocate.specs.Limits.{frame_pointer, stack_pointer, general_registers}
use Rattle.relocate.specs.Restore.{Restore, allowed}
use Rattle.relocate.specs.Stopped.{Stopped, registers_right, cursor}
use Rattle.relocate.specs.Statepoint.{is_statepoint, Pair, pairs, is_null, is_frame_or_stack, is_memory_slot, is_register_slot, is_slot, pointers_in, same_size, right_form, slot_address, onward, is_register, slot_number, slots_inside, inside, slot_at, next, pointers_from, pointers_of}
use Rattle.relocate.specs.Plan.{records_of, only, every, stack_size, image_right, extent_right, plan_pairs, plan_record, plan}
use Rattle.relocate.specs.Relocation.{ListedPointer}

-- the refusal numbers of a plan are above 0
abbrev pub Above : Plan → Type 0
Above (refuse n p) = 0 < n
Above (window off size ps) = Unit {0}

need-above : (b : Bool) (n : ℕ) (k : Plan) → Above k → Above (need b (refuse (suc n) 0) k)
need-above true n k a = a
need-above false n k a = omega arith

only_above : (es : List Entry) (k : Entry → Plan) → ((e : Entry) → Above (k e)) → Above (only es k)
unfolding only
only_above [] k a = omega arith
only_above (e ∷ []) k a = a e
only_above (e ∷ e' ∷ es) k a = omega arith

pub every_yes : (good : Pair → Bool) (n i : ℕ) (p : Pair) (ps : List Pair) (k : Plan) → good p ≡ true → every good n i (p ∷ ps) k ≡ every good n (suc i) ps k
unfolding every
every_yes good n i p ps k e = rw (e, every)

pub every_no : (good : Pair → Bool) (n i : ℕ) (p : Pair) (ps : List Pair) (k : Plan) → good p ≡ false → every good n i (p ∷ ps) k ≡ refuse n i
unfolding every
every_no good n i p ps k e = rw (e, every)

every-above : (good : Pair → Bool) (n i : ℕ) (ps : List Pair) (k : Plan) → Above k → Above (every good (suc n) i ps k)
every-above good n i [] k a = unfold every in a
every-above good n i (p ∷ ps) k a = go (every-above good n (suc i) ps k a) (good p) refl
  where
    go : Above (every good (suc n) (suc i) ps k) → (b : Bool) → good p ≡ b → Above (every good (suc n) i (p ∷ ps) k)
    go ih true e = rw (every_yes good (suc n) i p ps k e) ih
    go ih false e = rw (every_no good (suc n) i p ps k e) (omega arith)

-- a window stands where every test held

module _ {off size : ℕ} {ws : List (List Pointer)} where
  need-held : (b : Bool) (n : ℕ) (k : Plan) → need b (refuse n 0) k ≡ window off size ws → (b ≡ true) × (k ≡ window off size ws)
  need-held true n k h = (refl, h)
  need-held false n k h = absurd (let z : ◌≡◌ {A = ℕ} 0 1 = cc in omega arith)

  only-held : (es : List Entry) (k : Entry → Plan) → only es k ≡ window off size ws → (e : Entry) × (es ≡ e ∷ []) × (k e ≡ window off size ws)
  unfolding only
  only-held [] k h = absurd (let z : ◌≡◌ {A = ℕ} 0 1 = cc in omega arith)
  only-held (e ∷ []) k h = (e, refl, h)
  only-held (e ∷ e' ∷ es) k h = absurd (let z : ◌≡◌ {A = ℕ} 0 1 = cc in omega arith)

  every_held : (good : Pair → Bool) (n i : ℕ) (ps : List Pair) (k : Plan) → every good n i ps k ≡ window off size ws
      → ((p : Pair) → Memᴰ p ps → good p ≡ true) × (k ≡ window off size ws)
  every_held good n i [] k h = (λ p m. absurd (mathlib.Core.List.Memᴰ.not-nil m), unfold every in h)
  every_held good n i (p ∷ ps) k h = go (every_held good n (suc i) ps k) (good p) refl
    where
      go : (every good n (suc i) ps k ≡ window off size ws → ((q : Pair) → Memᴰ q ps → good q ≡ true) × (k ≡ window off size ws))
          → (b : Bool) → good p ≡ b → ((q : Pair) → Memᴰ q (p ∷ ps) → good q ≡ true) × (k ≡ window off size ws)
      go ih true e =
          let r = ih (sym (every_yes good n i p ps k e) ∙ h) in
          (λ q m. pick q (mathlib.Core.List.Memᴰ.cases_cons m) (r.0 q), r.1)
        where
          pick : (q : Pair) → (q ≡ p) ⊎ Memᴰ q ps → (Memᴰ q ps → good q ≡ true) → good q ≡ true
          pick q (inl d) f = rw d e
          pick q (inr m) f = f m
      go ih false e = absurd (let w : refuse n i ≡ window off size ws = sym (every_no good n i p ps k e) ∙ h in let z : ◌≡◌ {A = ℕ} 0 1 = cc in omega arith)

-- The slots of a location that is inside.

-- slot number i, by the first one of a location
abbrev pub ahead : ℕ → Slot → Slot
ahead i (memory a) = memory (a + 8 * i)
ahead i (register r) = register r

pub ahead_zero : (x : Slot) → ahead 0 x ≡ x
ahead_zero (memory a) = ap memory (omega arith)
ahead_zero (register r) = refl

pub ahead-next : (i : ℕ) (x : Slot) → ahead (suc i) x ≡ ahead i (next x)
ahead-next i (memory a) = ap memory (omega arith)
ahead-next i (register r) = refl

slot-memory : (old : Bool) (f : Cursor) (n : ℕ) (l : Location) → is_register l ≡ false → slots_inside old f n l ≡ true
    → (slot_address f l ≡ some (f.sp + (or_zero (slot_address f l) - f.sp))) × (or_zero (slot_address f l) - f.sp + 8 * pointers_in old l.size ≤ n)
unfolding slots_inside
slot-memory old f n l q h = go (slot_address f l) refl
  where
    k : ℕ
    k = pointers_in old l.size

    go : (x : Option ℕ) → slot_address f l ≡ x
        → (slot_address f l ≡ some (f.sp + (or_zero (slot_address f l) - f.sp))) × (or_zero (slot_address f l) - f.sp + 8 * k ≤ n)
    go none e = absurd (true≢false (sym (rw (q, e) at h)))
    go (some a) e =
        let t = and_true (leb f.sp a) (leb (a + 8 * k) (f.sp + n)) (rw (q, e) at h) in
        let x : f.sp ≤ a = leb-true _ _ t.0 in
        let y : a + 8 * k ≤ f.sp + n = leb-true _ _ t.1 in
        rw e (ap some (omega arith), omega arith)

pub slot-inside : (old : Bool) (f : Cursor) (n : ℕ) (l : Location) → slots_inside old f n l ≡ true
    → (i : ℕ) → slot_number f l i ≡ some (from_image f.sp (ahead i (slot_at f l)))
unfolding slot_number slot_at
slot-inside old f n l h i = go (is_register l) refl
  where
    go : (b : Bool) → is_register l ≡ b → slot_number f l i ≡ some (from_image f.sp (ahead i (slot_at f l)))
    go true q = rw q refl
    go false q =
        let x = (slot-memory old f n l q h).0 in
        rw q (ap (onward (8 * i)) x ∙ ap (λ (a : ℕ). some (memory a)) (omega arith))

-- What a location of slots tells of its register.

or_false : (a b : Bool) → (a || b) ≡ false → (a ≡ false) × (b ≡ false)
or_false true b h = absurd (true≢false h)
or_false false b h = (refl, h)

general_few : (m : Machine) → general_registers m ≤ 32
general_few Amd64 = omega arith
general_few Aarch64 = omega arith

pub record Holder (m : Machine) (r : ℕ) : Type 0 where
  pub few : r < 32
  pub not_frame : r ≡ frame_pointer m → ⊥
  pub not_stack : r ≡ stack_pointer m → ⊥

pub holder : (m : Machine) (old : Bool) (l : Location) → is_slot m old l ≡ true → is_register l ≡ true → Holder m l.register
unfolding is_slot is_memory_slot is_register_slot is_register is_frame_or_stack
holder m old l h q =
    let k : l.kind ≡ 1 = eqb-true _ _ q in
    let z : eqb l.kind 3 ≡ false = rw k refl in
    let a = and_true (eqb l.kind 1) _ (rw z at h) in
    let b = and_true (eqb l.size 8 || (old && eqb l.size 0)) _ a.1 in
    let c = and_true (eqb l.offset 0) _ b.1 in
    let d = and_true (ltb l.register (general_registers m)) _ c.1 in
    let e = or_false (eqb l.register (frame_pointer m)) _ (not-true _ d.1) in
    record {
      few = let x : l.register < general_registers m = ltb-true _ _ d.0 in let y = general_few m in omega arith;
      not_frame = eqb-false _ _ e.0;
      not_stack = eqb-false _ _ e.1;
    }

pub slot_in_lem : (m : Machine) (old : Bool) (f : Cursor) (n : ℕ) (l : Location) → is_slot m old l ≡ true → slots_inside old f n l ≡ true
    → (i : ℕ) → i < pointers_in old l.size → SlotIn n 32 (ahead i (slot_at f l))
unfolding slot_at
slot_in_lem m old f n l s h i k = go (is_register l) refl
  where
    go : (b : Bool) → is_register l ≡ b → SlotIn n 32 (ahead i (slot_at f l))
    go true q = rw q (holder m old l s q).few
    go false q = rw q (omega (arith, (slot-memory old f n l q h).1))

-- a register that is a location's first slot
pub slot-register : (m : Machine) (old : Bool) (f : Cursor) (l : Location) → is_slot m old l ≡ true → (i r : ℕ) → ahead i (slot_at f l) ≡ register r → Holder m r
unfolding slot_at
slot-register m old f l s i r e = go (is_register l) refl
  where
    go : (b : Bool) → is_register l ≡ b → Holder m r
    go true q = let x : register l.register ≡ register r = rw q at e in let y : l.register ≡ r = cc in rw (← y) (holder m old l s q)
    go false q =
        let x : memory (or_zero (slot_address f l) - f.sp + 8 * i) ≡ register r = rw q at e in
        absurd (let z : ◌≡◌ {A = ℕ} 0 1 = cc in omega arith)

-- both locations of a pair of the right form hold as many pointers
pub same_count : (old : Bool) (p : Pair) → same_size old p ≡ true → pointers_in old p.derived.size ≡ pointers_in old p.base.size
unfolding same_size pointers_in
same_count true p h = refl
same_count false p h = let e : p.base.size ≡ p.derived.size = eqb-true _ _ h in rw e

-- a pair of the right form that is not null has two locations of slots, of one size
pub record Formed (m : Machine) (old : Bool) (p : Pair) : Type 0 where
  pub base_slot : is_slot m old p.base ≡ true
  pub derived_slot : is_slot m old p.derived ≡ true
  pub one_size : same_size old p ≡ true

pub form_slots : (m : Machine) (old : Bool) (pool : List ℕ) (p : Pair) → right_form m old pool p ≡ true → is_null pool p ≡ false → Formed m old p
unfolding right_form
form_slots m old pool p h e =
    let a = and_true (is_slot m old p.base) _ (rw e at h) in
    let b = and_true (is_slot m old p.derived) _ a.1 in
    record { base_slot = a.0; derived_slot = b.0; one_size = b.1 }

-- a pointer of the window, and the pair that it comes from, of which it is number i
pub record From (old : Bool) (pool : List ℕ) (f : Cursor) (n : ℕ) (b d : Slot) (p : Pair) (i : ℕ) : Type 0 where
  pub not_null : is_null pool p ≡ false
  pub formed : Formed f.machine old p
  pub held : i < pointers_in old p.base.size
  pub base_is : ahead i (slot_at f p.base) ≡ b
  pub derived_is : ahead i (slot_at f p.derived) ≡ d
  pub base_at : slot_number f p.base i ≡ some (from_image f.sp b)
  pub derived_at : slot_number f p.derived i ≡ some (from_image f.sp d)
  pub base_in : SlotIn n 32 b
  pub derived_in : SlotIn n 32 d

module _ (old : Bool) (pool : List ℕ) (f : Cursor) where
  pub from-slots : (n : ℕ) (p : Pair) (i : ℕ) → inside old pool f n p ≡ true → Formed f.machine old p → is_null pool p ≡ false
      → i < pointers_in old p.base.size → From old pool f n (ahead i (slot_at f p.base)) (ahead i (slot_at f p.derived)) p i
  unfolding inside
  from-slots n p i h s e l =
      let a = and_true _ _ (rw e at h) in
      let z = same_count old p s.one_size in
      record {
        not_null = e;
        formed = s;
        held = l;
        base_is = refl;
        derived_is = refl;
        base_at = slot-inside old f n p.base a.0 i;
        derived_at = slot-inside old f n p.derived a.1 i;
        base_in = slot_in_lem f.machine old f n p.base s.base_slot a.0 i l;
        derived_in = slot_in_lem f.machine old f n p.derived s.derived_slot a.1 i (rw z l);
      }

  -- a pointer of a run, by its number
  in_run : (n : ℕ) (b d b₀ d₀ : Slot) → Memᴰ (slots b d) (pointers_from n b₀ d₀) → (i : ℕ) × (i < n) × (ahead i b₀ ≡ b) × (ahead i d₀ ≡ d)
  in_run zero b d b₀ d₀ m = absurd (mathlib.Core.List.Memᴰ.not-nil m)
  in_run (suc n) b d b₀ d₀ m = ⊎_elim first (λ k. on (in_run n b d (next b₀) (next d₀) k)) (mathlib.Core.List.Memᴰ.cases_cons m)
    where
      first : slots b d ≡ slots b₀ d₀ → (i : ℕ) × (i < suc n) × (ahead i b₀ ≡ b) × (ahead i d₀ ≡ d)
      first e =
          let x : b₀ ≡ b = cc in
          let y : d₀ ≡ d = cc in
          (0, omega arith, ahead_zero b₀ ∙ x, ahead_zero d₀ ∙ y)

      on : (i : ℕ) × (i < n) × (ahead i (next b₀) ≡ b) × (ahead i (next d₀) ≡ d) → (i : ℕ) × (i < suc n) × (ahead i b₀ ≡ b) × (ahead i d₀ ≡ d)
      on r = (suc r.0, omega (arith, r.1), ahead-next r.0 b₀ ∙ r.2, ahead-next r.0 d₀ ∙ r.3)

  of_run : (n : ℕ) (b d : Slot) (i : ℕ) → i < n → Memᴰ (slots (ahead i b) (ahead i d)) (pointers_from n b d)
  of_run zero b d i h = absurd (not-suc-le-zero h)
  of_run (suc n) b d zero h = rw (ahead_zero b, ahead_zero d) (mathlib.Core.List.Memᴰ.head refl)
  of_run (suc n) b d (suc i) h = rw (ahead-next i b, ahead-next i d) (mathlib.Core.List.Memᴰ.tail (of_run n (next b) (next d) i (omega arith)))

  pub pair-from : (n : ℕ) (p : Pair) (b d : Slot) → inside old pool f n p ≡ true → (is_null pool p ≡ false → Formed f.machine old p)
      → Memᴰ (slots b d) (pointers_of old pool f p) → (i : ℕ) × From old pool f n b d p i
  unfolding pointers_of
  pair-from n p b d h s m = go (is_null pool p) refl
    where
      alone : Memᴰ (slots b d) (null ∷ []) → slots b d ≡ null
      alone k = ⊎_elim (λ e. e) (λ x. absurd (mathlib.Core.List.Memᴰ.not-nil x)) (mathlib.Core.List.Memᴰ.cases_cons k)

      go : (t : Bool) → is_null pool p ≡ t → (i : ℕ) × From old pool f n b d p i
      go true q = absurd (let w = alone (rw q at m) in let z : ◌≡◌ {A = ℕ} 0 1 = cc in omega arith)
      go false q =
          let r = in_run _ b d _ _ (rw q at m) in
          (r.0, rw (r.2, r.3) at (from-slots n p r.0 h (s q) q r.1))

  pub pair-slots : (p : Pair) (i : ℕ) → is_null pool p ≡ false → i < pointers_in old p.base.size
      → Memᴰ (slots (ahead i (slot_at f p.base)) (ahead i (slot_at f p.derived))) (pointers_of old pool f p)
  unfolding pointers_of
  pair-slots p i e h = rw e (of_run (pointers_in old p.base.size) (slot_at f p.base) (slot_at f p.derived) i h)

-- a slot has one place
pub one_place : {x : Option Slot} {a b : Slot} → x ≡ some a → x ≡ some b → a ≡ b
one_place {a = a} {b = b} h k = let e : some a ≡ some b = sym h ∙ k in cc

module _ (R : Restore) (n : ℕ) (st : Stopped) where
  abbrev pool : List ℕ
  pool = (read_section R.section).constants

  abbrev old : Bool
  old = is_old R.section

  abbrev f : Cursor
  f = cursor st

  pub record Planned (off size : ℕ) (ws : List (List Pointer)) : Type 0 where
    pub entry : Entry
    pub one : records_of R.section st.frame ≡ entry ∷ []
    pub registers : length st.registers ≡ 32
    pub known : stack_size entry ≡ stack_size_unknown → ⊥
    pub low : R.first ≤ f.sp
    pub high : f.sp + stack_size entry ≤ R.first + n
    pub off_is : off ≡ f.sp - R.first
    pub size_is : size ≡ stack_size entry
    pub pairs-are : ws ≡ map (pointers_of old pool f) (pairs entry.body)
    pub statepoint : is_statepoint entry.body ≡ true
    pub forms : (p : Pair) → Memᴰ p (pairs entry.body) → right_form f.machine old pool p ≡ true
    pub insides : (p : Pair) → Memᴰ p (pairs entry.body) → inside old pool f (stack_size entry) p ≡ true

  pub planned : (e : ℕ) → section_check R.section ≡ Valid e → (off size : ℕ) (ws : List (List Pointer)) → plan R n st ≡ window off size ws → Planned off size ws
  unfolding plan plan_record plan_pairs extent_right registers_right ask
  planned e k off size ws h =
      let hₐ = need-held (allowed R st.frame.machine) 33 _ (rw k at h) in
      let h₀ = need-held (table_right R.olds R.news) 14 _ (need-held (image_right R.first n) 13 _ hₐ.1).1 in
      let hᵣ = need-held (registers_right st.registers) 25 _ h₀.1 in
      let o = only-held _ _ hᵣ.1 in
      let h₁ = need-held (is_statepoint o.0.body) 12 _ o.2 in
      let h₂ = need-held (extent_right R.first n f.sp (stack_size o.0)) 16 _ h₁.1 in
      let h₃ = need-held (not old || leb (length (pairs o.0.body)) R.settings.most) 17 _ h₂.1 in
      let h₄ = every_held _ _ _ _ _ h₃.1 in
      let h₄₅ = need-held (leb (length (flatten (map (pointers_of old pool f) (pairs o.0.body)))) R.settings.most) 17 _ h₄.1 in
      let h₅ = every_held _ _ _ _ _ h₄₅.1 in
      let x = and_true _ _ h₂.0 in
      let y = and_true _ _ x.1 in
      let w = h₅.1 in
      record {
        entry = o.0;
        one = o.1;
        registers = eqb-true _ _ hᵣ.0;
        known = eqb-false _ _ (not-true _ x.0);
        low = leb-true _ _ y.0;
        high = leb-true _ _ y.1;
        off_is = cc;
        size_is = cc;
        pairs-are = cc;
        statepoint = h₁.0;
        forms = h₄.0;
        insides = h₅.0;
      }

  pub plan-above : (e : ℕ) → section_check R.section ≡ Valid e → Above (plan R n st)
  unfolding plan plan_record plan_pairs ask
  plan-above e k =
      rw k
      (need-above (allowed R st.frame.machine) 32 _ (need-above (image_right R.first n) 12 _ (need-above (table_right R.olds R.news) 13 _
      (need-above (registers_right st.registers) 24 _ (only_above _ _ (λ x.
      need-above (is_statepoint x.body) 11 _ (need-above (extent_right R.first n f.sp (stack_size x)) 15 _
      (need-above (not old || leb (length (pairs x.body)) R.settings.most) 16 _ (every-above _ 17 0 _ _
      (need-above (leb (length (flatten (map (pointers_of old pool f) (pairs x.body)))) R.settings.most) 16 _ (every-above _ 18 0 _ _ tt)))))))))))

  pub window-pair : (off size : ℕ) (ws : List (List Pointer)) (q : Planned off size ws)
      → (b d : Slot) → Memᴰ (slots b d) (flatten ws) → (p : Pair) × Memᴰ p (pairs q.entry.body) × ((i : ℕ) × From old pool f size b d p i)
  window-pair off size ws q b d m =
      let o = in_block (pointers_of old pool f) (pairs q.entry.body) (rw q.pairs-are at m) in
      (o.0, o.1, rw q.size_is (pair-from old pool f (stack_size q.entry) o.0 b d (q.insides o.0 o.1) (form_slots f.machine old pool o.0 (q.forms o.0 o.1)) o.2))

  -- and is listed
  pub window-lists : (off size : ℕ) (ws : List (List Pointer)) (q : Planned off size ws)
      → (b d : Slot) → Memᴰ (slots b d) (flatten ws) → ListedPointer R.section st (from_image f.sp b) (from_image f.sp d)
  unfolding cursor
  window-lists off size ws q b d m =
      let v = window-pair off size ws q b d m in
      record {
        entry = q.entry;
        one = q.one;
        statepoint = q.statepoint;
        pair = v.0;
        listed = v.1;
        not_null = v.2.1.not_null;
        base_slot = v.2.1.formed.base_slot;
        derived_slot = v.2.1.formed.derived_slot;
        pointer = v.2.0;
        held = v.2.1.held;
        base_at = v.2.1.base_at;
        derived_at = v.2.1.derived_at;
      }

  -- a listed pointer is one of the window's
  pub record Stands (size : ℕ) (ws : List (List Pointer)) (b d : Slot) : Type 0 where
    pub base : Slot
    pub derived : Slot
    pub base_is : b ≡ from_image f.sp base
    pub derived_is : d ≡ from_image f.sp derived
    pub base_in : SlotIn size 32 base
    pub derived_in : SlotIn size 32 derived
    pub member : Memᴰ (slots base derived) (flatten ws)

  pub listed-stands : (off size : ℕ) (ws : List (List Pointer)) (q : Planned off size ws) (b d : Slot) → ListedPointer R.section st b d → Stands size ws b d
  listed-stands off size ws q b d l =
      let same : l.entry ≡ q.entry = (let x = l.one in let y = q.one in cc) in
      let m : Memᴰ l.pair (pairs q.entry.body) = rw (← same) l.listed in
      let t = form_slots f.machine old pool l.pair (q.forms l.pair m) l.not_null in
      let v = from-slots old pool f (stack_size q.entry) l.pair l.pointer (q.insides l.pair m) t l.not_null l.held in
      record {
        base = ahead l.pointer (slot_at f l.pair.base);
        derived = ahead l.pointer (slot_at f l.pair.derived);
        base_is = one_place l.base_at v.base_at;
        derived_is = one_place l.derived_at v.derived_at;
        base_in = rw q.size_is v.base_in;
        derived_in = rw q.size_is v.derived_in;
        member = rw q.pairs-are (of_block (pointers_of old pool f) (pairs q.entry.body) m (pair-slots old pool f l.pair l.pointer l.not_null l.held));
      }

  -- a register of a window is not the frame pointer or the stack pointer
  pub window_holder : (off size : ℕ) (ws : List (List Pointer)) (q : Planned off size ws) (b : Slot) (r : ℕ) → Memᴰ (slots b (register r)) (flatten ws) → Holder f.machine r
  window_holder off size ws q b r m =
      let v = window-pair off size ws q b (register r) m in
      slot-register f.machine old f v.0.derived v.2.1.formed.derived_slot v.2.0 r v.2.1.derived_is

  pub sound : (e : ℕ) → section_check R.section ≡ Valid e → Sound n (length st.registers) (plan R n st)
  sound e k = go (plan R n st) refl
    where
      go : (p : Plan) → plan R n st ≡ p → Sound n (length st.registers) p
      go (refuse m p) h = tt
      go (window off size ws) h =
          let q = planned e k off size ws h in
          record {
            window_in = omega (arith, q.off_is, q.size_is, q.low, q.high);
            base_in = λ b d m. rw q.registers (window-pair off size ws q b d m).2.1.base_in;
            derived_in = λ b d m. rw q.registers (window-pair off size ws q b d m).2.1.derived_in;
          }
