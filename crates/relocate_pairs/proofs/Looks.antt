-- A pair as a run of pointers, and whether its slots are inside.
use Prim.Native.Nat.{ℕ, zero, suc, ◌+◌, ◌*◌, ◌-◌, ◌/◌, ◌%◌, ◌≤◌}
use mathlib.Core.Path.{◌≡◌, refl, sym, ap, ◌∙◌}
use mathlib.Core.Bool.{Bool, true, false, ◌&&◌, ◌||◌, true≢false}
use mathlib.Core.Logic.{⊎_elim}
use mathlib.Core.Option.{none, some}
use mathlib.Core.List.{List}
use native.Mathlib.Omega.{arith}
use borrow.Author.Tests.{eqb-true, leb-true}
use lib.Dec.{eqb}
use Rattle.stackmap.specs.Section.{Location}
use Rattle.stackmap.proofs.Tests.{and_true, or_true}
use Rattle.moves.specs.Slots.{memory, register}
use Rattle.moves.specs.Pointers.{or_zero}
use Rattle.moves.specs.Arrays.{registers_from, slot_of}
use Rattle.moves.proofs.Cells.{SlotIn}
use Rattle.moves.proofs.Numbers.{slot-memory, slot-register, placed-memory}
use Rattle.relocate.specs.declared.Cursor.{Cursor}
use Rattle.relocate.specs.declared.Machine.{Machine}
use Rattle.relocate.specs.Statepoint.{Pair, is_null, size_right, pointers_in, is_frame_or_stack, is_memory_slot, is_register_slot, is_slot, right_form, slot_address, is_register, slot_at, slots_inside, inside, pointers_from, pointers_of}
use Rattle.relocate.specs.Code.{number_of, slot_in, run_of, RunPlaced, Looked}
use Rattle.relocate.proofs.Planned.{holder, slot_in_lem, same_count, form_slots}
use Rattle.relocate_pairs.proofs.Forms.{at-inside, out_inside}

-- a location of slots holds a pointer
size_holds : (old : Bool) (n : ℕ) → size_right old n ≡ true → 1 ≤ pointers_in old n
unfolding size_right pointers_in
size_holds true n h = omega arith
size_holds false n h = leb-true 1 (n / 8) (and_true _ _ (and_true (eqb (n % 8) 0) _ h).1).0

-- a register is one slot
register-one : (m : Machine) (old : Bool) (l : Location) → is_register_slot m old l ≡ true → pointers_in old l.size ≡ 1
unfolding is_register_slot pointers_in
register-one m true l h = refl
register-one m false l h =
    let a = and_true (eqb l.kind 1) _ h in
    let b = and_true (eqb l.size 8 || false) _ a.1 in
    let e : l.size ≡ 8 = ⊎_elim (λ t. eqb-true _ _ t) (λ t. absurd (true≢false (sym t))) (or_true (eqb l.size 8) false b.0) in
    omega arith

slot-holds : (m : Machine) (old : Bool) (l : Location) → is_slot m old l ≡ true → 1 ≤ pointers_in old l.size
unfolding is_slot is_memory_slot
slot-holds m old l h = ⊎_elim in_memory (λ t. omega (arith, register-one m old l t)) (or_true _ _ h)
  where
    in_memory : (eqb l.kind 3 && (size_right old l.size && is_frame_or_stack m l.register)) ≡ true → 1 ≤ pointers_in old l.size
    in_memory t = size_holds old l.size (and_true _ _ (and_true (eqb l.kind 3) _ t).1).0

-- a location of slots with kind 1 is a register
register-slot : (m : Machine) (old : Bool) (l : Location) → is_slot m old l ≡ true → is_register l ≡ true → is_register_slot m old l ≡ true
unfolding is_slot is_memory_slot is_register
register-slot m old l h q =
    let k : l.kind ≡ 1 = eqb-true _ _ q in
    let z : eqb l.kind 3 ≡ false = rw k refl in
    rw z at h

-- The number of a location's first slot, if it is inside.

module _ (m : Machine) (old : Bool) (f : Cursor) (n : ℕ) (l : Location) (small : n ≤ 1048576) (s : is_slot m old l ≡ true) (h : slots_inside old f n l ≡ true) where
  abbrev k : ℕ
  k = pointers_in old l.size

  abbrev start : ℕ
  start = or_zero (slot_address f l) - f.sp

  last-inside : is_register l ≡ false → start + 8 * k ≤ n
  unfolding slot_at
  last-inside q =
      let one = slot-holds m old l s in
      let i : SlotIn n 32 (memory (start + 8 * (k - 1))) = rw q at (slot_in_lem m old f n l s h (k - 1) (omega arith)) in
      omega (arith, i)

  pub number-slot : slot_of (number_of f l) ≡ slot_at f l
  unfolding number_of slot_at
  number-slot = go (is_register l) refl
    where
      go : (b : Bool) → is_register l ≡ b → slot_of (number_of f l) ≡ slot_at f l
      go true q =
          let e : (registers_from + 8 * l.register - registers_from) / 8 ≡ l.register = omega arith in
          rw q (slot-register (registers_from + 8 * l.register) (omega arith) ∙ ap register e)
      go false q = rw q (slot-memory start (omega (arith, last-inside q)))

  pub number-placed : RunPlaced n k (number_of f l)
  unfolding number_of
  number-placed = go (is_register l) refl
    where
      go : (b : Bool) → is_register l ≡ b → RunPlaced n k (number_of f l)
      go true q =
          let one = register-one m old l (register-slot m old l s q) in
          let few = (holder m old l s q).few in
          rw q (record {
            first = record { in_window = λ a. absurd (omega arith); in_list = λ a. omega arith; apart = λ a. omega arith };
            more = λ a. absurd (omega (arith, one));
          })
      go false q =
          let one = slot-holds m old l s in
          rw q (record { first = placed-memory n 32 start (omega arith) (omega (arith, last-inside q, one)); more = λ a. last-inside q })

run_is : (k b d : ℕ) → 1 ≤ k → run_of k b d ≡ pointers_from k (slot_of b) (slot_of d)
run_is zero b d h = absurd (omega arith)
run_is (suc k) b d h = refl

module _ (old : Bool) (pool : List ℕ) (f : Cursor) (n : ℕ) (p : Pair) where
  pub look-null : is_null pool p ≡ true → (true ≡ inside old pool f n p) × Looked old pool f n p 0 0 0
  unfolding inside pointers_of
  look-null e = rw e (refl, record { pointers_are = rw e; base_placed = λ a. absurd (omega arith); derived_placed = λ a. absurd (omega arith) })

  module _ (e : is_null pool p ≡ false) where
    -- both are inside
    pub look-run : right_form f.machine old pool p ≡ true → n ≤ 1048576 → (x y k : ℕ) → some x ≡ slot_in old f n p.base → some y ≡ slot_in old f n p.derived
        → k ≡ pointers_in old p.base.size → (true ≡ inside old pool f n p) × Looked old pool f n p k x y
    unfolding inside pointers_of
    look-run form small x y k hx hy hk =
        let t = form_slots f.machine old pool p form e in
        let a = at-inside old f n p.base x hx in
        let b = at-inside old f n p.derived y hy in
        let same = same_count old p t.one_size in (
          rw (e, ← a.0, ← b.0),
          record {
            pointers_are = rw (
              e,
              a.1,
              b.1,
              hk,
              run_is (pointers_in old p.base.size) (number_of f p.base) (number_of f p.derived) (slot-holds f.machine old p.base t.base_slot),
              number-slot f.machine old f n p.base small t.base_slot (sym a.0),
              number-slot f.machine old f n p.derived small t.derived_slot (sym b.0),
            );
            base_placed = λ u. rw (a.1, hk) (number-placed f.machine old f n p.base small t.base_slot (sym a.0));
            derived_placed = λ u. rw (b.1, hk, ← same) (number-placed f.machine old f n p.derived small t.derived_slot (sym b.0));
          },
        )

    pub look-base : none ≡ slot_in old f n p.base → false ≡ inside old pool f n p
    unfolding inside
    look-base h = rw (e, ← out_inside old f n p.base h)

    pub look-derived : (x : ℕ) → some x ≡ slot_in old f n p.base → none ≡ slot_in old f n p.derived → false ≡ inside old pool f n p
    unfolding inside
    look-derived x hx h = rw (e, ← (at-inside old f n p.base x hx).0, ← out_inside old f n p.derived h)
