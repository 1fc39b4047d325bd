-- The consequences.
use Prim.Native.Nat.{ℕ, ◌+◌, ◌*◌, ◌-◌, ◌≤◌, ◌<◌, ◌^◌}
use mathlib.Core.Path.{◌≡◌, refl, sym, ap, ◌∙◌, subst}
use mathlib.Core.Bool.{Bool, true, false}
use mathlib.Core.Option.{Option, none, some}
use mathlib.Core.List.Memᴰ
use mathlib.Core.List.{List, [], ◌∷◌, map, flatten, Memᴰ}
use native.Mathlib.Omega.{arith}
use lib.ListN.{length}
use Rattle.wire.specs.Word.{Bytes}
use Rattle.wire.proofs.Laws.{word_bound}
use Rattle.stackmap.specs.Section.{Entry, is_old, read_section}
use Rattle.stackmap.specs.Verdict.{Verdict}
use Rattle.stackmap.specs.Verdict.{Valid, Refused}
use Rattle.stackmap.specs.Check.{section_check}
use Rattle.moves.specs.declared.Move.{Move}
use Rattle.moves.specs.Window.{part, splice}
use Rattle.moves.specs.Table.{look_up}
use Rattle.moves.specs.Slots.{Slot, memory, register, State, state}
use Rattle.moves.specs.Pointers.{Pointer, null, slots, or_zero, new_derived, new_content}
use Rattle.moves.specs.Settle.{accepted_move}
use Rattle.moves.specs.Plan.{Plan, refuse, window, at_pair, says, leaves, leaves_registers}
use Rattle.moves.proofs.Cells.{SlotIn}
use Rattle.moves.proofs.Splice.{part_at, splice-same}
use Rattle.moves.proofs.Words.{from_image, word_of, word_local, kept}
use Rattle.moves.proofs.Order.{settle-refused, accepted-whole, refused-count}
use Rattle.moves.proofs.Local.{Agrees, settled_local}
use Rattle.moves.proofs.Local as local
use Rattle.relocate.specs.Limits.{frame_pointer, stack_pointer}
use Rattle.relocate.specs.Restore.{Restore}
use Rattle.relocate.specs.Stopped.{Stopped, stopped, registers_right, cursor}
use Rattle.relocate.specs.declared.Cursor.{Cursor}
use Rattle.relocate.specs.declared.Machine.{Machine}
use Rattle.stackmap.specs.Section.{Location}
use Rattle.relocate.specs.Statepoint.{pairs, is_slot, slot_address, onward, is_register, slot_number, pointers_of}
use Rattle.relocate.specs.Plan.{plan}
use Rattle.relocate.specs.Relocation.{answer, moved, moved_registers, OneRecord, ListedPointer, content_at, new_content_at}
use Rattle.relocate.specs.Lists.{Holds, RegistersHold}
use Rattle.relocate.specs.Consequences.{Untouched, after_move, KeepsCursor, Counts, Words, KeepsDistance, AgreeOn, AgreeOnSlots, OnlySlotsCount}
use Rattle.relocate.proofs.Planned.{Holder, holder, Planned, planned, window-pair, window-lists, listed-stands}
use Rattle.relocate.proofs.Demand.{demand3, accepts, plan-refused, accepted-section}

untouched-plan : (table : ℕ → Option ℕ) (im rs : List ℕ) (p : Plan) → ((says table im rs p).number ≡ 0 → ⊥)
    → (leaves table im rs p ≡ im) × (leaves_registers table im rs p ≡ rs)
untouched-plan table im rs (refuse n q) h = (refl, refl)
untouched-plan table im rs (window off size ps) h =
    let e = settle-refused table (flatten ps) (state (part im off size) rs) h in
    (ap (λ (w : State). splice im off size w.window) e ∙ splice-same im off size, ap (λ (w : State). w.registers) e)

pub untouched : Untouched
unfolding answer moved moved_registers
untouched R im f h = untouched-plan (look_up R.olds R.news) im f.registers (plan R (length im) f) h

-- No move changes the frame pointer or the stack pointer.

-- a register that is a slot of a location
number_holder : (m : Machine) (old : Bool) (f : Cursor) (l : Location) (i r : ℕ) → is_slot m old l ≡ true → slot_number f l i ≡ some (register r) → Holder m r
unfolding slot_number
number_holder m old f l i r s h = go (is_register l) refl
  where
    in_memory : (x : Option ℕ) → onward (8 * i) x ≡ some (register r) → ⊥
    in_memory none e = let z : ◌≡◌ {A = ℕ} 0 1 = cc in omega arith
    in_memory (some a) e = let z : ◌≡◌ {A = ℕ} 0 1 = cc in omega arith

    go : (b : Bool) → is_register l ≡ b → Holder m r
    go true q = let e : some (register l.register) ≡ some (register r) = rw q at h in let y : l.register ≡ r = cc in rw (← y) (holder m old l s q)
    go false q = absurd (in_memory (slot_address f l) (rw q at h))

pub listed_holder : (s : List ℕ) (f : Stopped) (b : Slot) (r : ℕ) → ListedPointer s f b (register r) → Holder f.frame.machine r
listed_holder s f b r l = number_holder f.frame.machine (is_old s) (cursor f) l.pair.derived l.pointer r l.derived_slot l.derived_at

-- one frame alone
pub alone : (R : Restore) (im : List ℕ) (f : Stopped) → Holds R im (f ∷ [])
alone R im f = demand3 R im (f ∷ []) ((λ g m. absurd (Memᴰ.not-nil m)), tt)

pub registers_alone : (R : Restore) (im : List ℕ) (f : Stopped) → RegistersHold R im f
registers_alone R im f = (alone R im f).registers f (Memᴰ.head refl)

same_cursor : (R : Restore) (im : List ℕ) (f : Stopped) → cursor (after_move R im f) ≡ cursor f
unfolding cursor
same_cursor R im f =
    rw (
      (registers_alone R im f).rest (frame_pointer f.frame.machine) (λ b w. (listed_holder R.section f b _ w.lists).not_frame refl),
      (registers_alone R im f).rest (stack_pointer f.frame.machine) (λ b w. (listed_holder R.section f b _ w.lists).not_stack refl),
    )

pub keeps_cursor : KeepsCursor
keeps_cursor = record { same_cursor = same_cursor; same_length = λ R im f. (registers_alone R im f).same_length }

-- the answer of an accepted frame
accepted-answer : (R : Restore) (im : List ℕ) (f : Stopped) → (answer R im f).number ≡ 0
    → (e : Entry) → OneRecord R.section f.frame e
    → answer R im f ≡ accepted_move (length (flatten (map (pointers_of (is_old R.section) (read_section R.section).constants (cursor f)) (pairs e.body))))
unfolding answer
accepted-answer R im f h e one =
    let k = accepted-section R im f h in
    let a = accepts R (length R.section) k im f h in
    let q = planned R (length im) f (length R.section) k a.off a.size a.pairs a.is_window in
    let same : e ≡ q.entry = (let y = q.one in cc) in
    let ps : a.pairs ≡ map (pointers_of (is_old R.section) (read_section R.section).constants (cursor f)) (pairs e.body) = q.pairs-are ∙ rw same in
    rw (a.is_window, ← ps) (ap (at_pair a.pairs) (accepted-whole (look_up R.olds R.news) (flatten a.pairs) (state (part im a.off a.size) f.registers) a.settled_0))

refused-plan : (table : ℕ → Option ℕ) (im rs : List ℕ) (p : Plan) → ((says table im rs p).number ≡ 0 → ⊥) → (says table im rs p).count ≡ 0
refused-plan table im rs (refuse n q) h = refl
refused-plan table im rs (window off size ps) h = refused-count table (flatten ps) (state (part im off size) rs) h

refused-answer : (R : Restore) (im : List ℕ) (f : Stopped)
    → ((answer R im f).number ≡ 0 → ⊥) → (answer R im f).count ≡ 0
unfolding answer
refused-answer R im f h = refused-plan (look_up R.olds R.news) im f.registers (plan R (length im) f) h

pub counts : Counts
counts =
    record {
      accepted = λ R im f h e one. (
        ap (λ (m : Move). m.place) (accepted-answer R im f h e one),
        ap (λ (m : Move). m.count) (accepted-answer R im f h e one),
      );
      refused = refused-answer;
    }

-- the slots of an accepted frame stand in the image, or are registers
abbrev pub From : ℕ → Slot → Type 0
From first (memory a) = first ≤ a
From first (register r) = Unit {0}

pub from-window : (first sp : ℕ) (x : Slot) → first ≤ sp → From first (from_image sp x)
from-window first sp (memory a) h = omega arith
from-window first sp (register r) h = tt

pub slots-low : (R : Restore) (im : List ℕ) (f : Stopped) → (answer R im f).number ≡ 0
    → (b d : Slot) → ListedPointer R.section f b d → From R.first b × From R.first d
slots-low R im f h b d l =
    let k = accepted-section R im f h in
    let a = accepts R (length R.section) k im f h in
    let q = planned R (length im) f (length R.section) k a.off a.size a.pairs a.is_window in
    let v = listed-stands R (length im) f a.off a.size a.pairs q b d l in (
      subst (From R.first) (sym v.base_is) (from-window R.first (cursor f).sp v.base q.low),
      subst (From R.first) (sym v.derived_is) (from-window R.first (cursor f).sp v.derived q.low),
    )

-- the new content of a derived slot, as a number in the new image or the new registers
pub new-content : (R : Restore) (im : List ℕ) (f : Stopped) → (answer R im f).number ≡ 0
    → (b d : Slot) → ListedPointer R.section f b d → From R.first d
    → content_at R (moved R im f) (moved_registers R im f) d ≡ new_content_at R im f.registers b d
unfolding new_content new_derived
new-content R im f a b (register r) l low = (registers_alone R im f).slot b r (record { accepted = a; lists = l })
new-content R im f a b (memory d) l low =
    let v = new_content_at R im f.registers b (memory d) in
    word_of 8 (moved R im f) (d - R.first) v (λ i q.
    let e : R.first + i - d ≡ i - (d - R.first) = omega arith in
    rw e at ((alone R im f).slot f b d i (record { in_list = Memᴰ.head refl; accepted = a; lists = l; inside = record { low = omega arith; high = omega arith } })))
    ∙ omega arith

-- a slot holds a 64-bit number
pub content_bound : (R : Restore) (im rs : List ℕ) (x : Slot) → Bytes im → Words rs → content_at R im rs x < 2 ^ 64
content_bound R im rs (memory a) w u = omega (arith, word_bound 8 im (a - R.first) w)
content_bound R im rs (register r) w u = u r

pub keeps_distance : KeepsDistance
unfolding new_content new_derived
keeps_distance R im f w u a b d l r =
    let low = slots-low R im f a b d l in
    rw (new-content R im f a b d l low.1, new-content R im f a b b r low.0)
    (kept (content_at R im f.registers d) (content_at R im f.registers b) (or_zero (look_up R.olds R.news (content_at R im f.registers b))) (omega (arith, content_bound R im f.registers b w u)))

module _ (R : Restore) (im im' rs' : List ℕ) (f : Stopped) (g : AgreeOnSlots R f im im' rs') where
  abbrev table : ℕ → Option ℕ
  table = look_up R.olds R.news

  abbrev rs : List ℕ
  rs = f.registers

  abbrev f' : Stopped
  f' = stopped f.frame rs'

  -- the two frames have one plan
  same-plan : plan R (length im) f ≡ plan R (length im') f'
  unfolding plan registers_right
  same-plan = rw (← g.same_length, g.same_registers, g.same_cursor)

  plan_agrees : (e : ℕ) → section_check R.section ≡ Valid e → (p : Plan) → plan R (length im) f ≡ p → says table im rs p ≡ says table im' rs' p
  plan_agrees e k (refuse n q) h = refl
  plan_agrees e k (window off size ps) h =
      ap (at_pair ps) (settled_local table (flatten ps) (state (part im off size) rs) (state (part im' off size) rs') agrees)
    where
      q : Planned R (length im) f off size ps
      q = planned R (length im) f e k off size ps h

      at : (x : Slot) → SlotIn size 32 x → AgreeOn R im im' rs rs' (from_image (cursor f).sp x)
          → local.AgreeOn (state (part im off size) rs) (state (part im' off size) rs') x
      at (register r) l same = same
      at (memory b) l same = λ i r.
          let z = q.off_is in
          let y = q.low in
          part_at im off size i (omega arith) ∙ same (off + i) (record { low = omega arith; high = omega arith }) ∙ sym (part_at im' off size i (omega arith))

      agrees : (p : Pointer) → Memᴰ p (flatten ps) → Agrees (state (part im off size) rs) (state (part im' off size) rs') p
      agrees null m = tt
      agrees (slots b d) m =
          let v = window-pair R (length im) f off size ps q b d m in
          let l = window-lists R (length im) f off size ps q b d m in
          (at b v.2.1.base_in (g.on_base _ _ l), at d v.2.1.derived_in (g.on_derived _ _ l))

  same_answer : answer R im f ≡ answer R im' f'
  unfolding answer
  same_answer = rw (← same-plan) (go (section_check R.section) refl)
    where
      P : Plan
      P = plan R (length im) f

      go : (v : Verdict) → section_check R.section ≡ v → says table im rs P ≡ says table im' rs' P
      go (Valid e) k = plan_agrees e k P refl
      go (Refused n p) k = rw (plan-refused R (length im) f n p k)

  pub content_agrees : (x : Slot) → From R.first x → AgreeOn R im im' rs rs' x → content_at R im rs x ≡ content_at R im' rs' x
  content_agrees (memory a) low h = word_local 8 im im' (a - R.first) (λ i r. h i (record { low = omega arith; high = omega arith }))
  content_agrees (register r) low h = h

  same_content : (answer R im f).number ≡ 0 → (b d : Slot) → ListedPointer R.section f b d
      → new_content_at R im rs b d ≡ new_content_at R im' rs' b d
  unfolding new_content
  same_content a b d l =
      let low = slots-low R im f a b d l in
      rw (content_agrees b low.0 (g.on_base b d l), content_agrees d low.1 (g.on_derived b d l))

pub only_slots_count : OnlySlotsCount
only_slots_count R im im' rs' f g =
    record { same_answer = same_answer R im im' rs' f g; same_content = same_content R im im' rs' f g }
