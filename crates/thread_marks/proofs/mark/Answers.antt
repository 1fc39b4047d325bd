use Prim.Native.Nat.{◌+◌}
use mathlib.Core.Path.{◌≡◌, refl, ◌∙◌}
use native.Mathlib.Omega.{arith}
use Rattle.stackmap.specs.Section.{address}
use Rattle.stackmap.specs.Walk.{entry_at}
use Rattle.questions.proofs.Kept.{here-address}
use Rattle.sorted_numbers.proofs.Gaps.{between_none}
use Rattle.thread_marks.specs.From.{entry_from}
use Rattle.thread_marks.proofs.Marks.{unlooked, owner-is, address-from, grown-none}
use Rattle.thread_marks.proofs.mark.Goals as goal

pub overflow_add-key : goal.overflow_add-key
overflow_add-key c =
    let a = c.args in
    let f = c.requires.3 in
    let h = here-address a.s.now a.index a.function a.at in
    omega (arith, f, h, c.requires.0, c.u32_at-offset.ensures, c.from.ensures)

pub returns-then-key-gap : goal.returns-then-key-gap
returns-then-key-gap c =
    let a = c.args in
    let e = entry_from a.base (entry_at a.s.now a.index a.function a.at) in
    let x : address e ≡ a.start + c.from.result =
    address-from a.base _ ∙ here-address a.s.now a.index a.function a.at ∙ rw (c.requires.0, c.from.ensures, c.u32_at-offset.ensures) in
    (unlooked a.keys.now a.count e _ (between_none (address e) c.requires.7 (omega arith) (omega arith)), grown-none _ _, c.requires.7)

pub note_at-requires : goal.note_at-requires
note_at-requires c = (c.requires.4, c.requires.6, c.place-i.ensures)

pub returns : goal.returns
returns c =
    let a = c.args in
    let e = entry_from a.base (entry_at a.s.now a.index a.function a.at) in
    let u = c.u32_at-offset in
    let x : address e ≡ a.start + c.from.result = address-from a.base _ ∙ here-address a.s.now a.index a.function a.at ∙ rw (c.requires.0, c.from.ensures, u.ensures) in
    (c.note_at.ensures.0 e refl (owner-is a.s.now a.index a.function a.at) refl x, c.note_at.ensures.1, c.around.ensures)
