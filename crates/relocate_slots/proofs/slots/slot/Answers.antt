use Prim.Native.Nat.{ℕ}
use mathlib.Core.Path.{sym, ap, ◌∙◌}
use Rattle.relocate.specs.Code.{location_of, position_in}
use Rattle.relocate_slots.proofs.Places.{slot-register, slot-frame, slot-stack}
use Rattle.relocate_slots.proofs.slots.slot.Goals as goal

pub returns-then-l-eq-KIND_REGISTER : goal.returns-then-l-eq-KIND_REGISTER
returns-then-l-eq-KIND_REGISTER c =
    let a = c.args in
    rw c.from.ensures (slot-register a.old a.frame a.size (location_of a.l) c.if-l-eq-KIND_REGISTER.true)

pub returns-then-l-frame_pointer : goal.returns-then-l-frame_pointer
returns-then-l-frame_pointer c =
    let a = c.args in
    c.position.ensures
    ∙ ap (λ (k : ℕ). position_in a.frame.fp a.frame.sp a.l.offset k a.size) c.pointers_in-slots.ensures.0
    ∙ slot-frame a.old a.frame a.size (location_of a.l) c.if-l-eq-KIND_REGISTER.false (c.if-l-frame_pointer.true ∙ c.frame_pointer.ensures)

pub returns : goal.returns
returns c =
    let a = c.args in
    c.position-2.ensures
    ∙ ap (λ (k : ℕ). position_in a.frame.sp a.frame.sp a.l.offset k a.size) c.pointers_in-slots.ensures.0
    ∙ slot-stack a.old a.frame a.size (location_of a.l) c.if-l-eq-KIND_REGISTER.false (λ e. c.if-l-frame_pointer.false (e ∙ sym c.frame_pointer.ensures))
