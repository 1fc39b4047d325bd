use Prim.Native.Nat.{◌+◌, ◌*◌, ◌-◌}
use mathlib.Core.Path.{◌≡◌, sym, ap, ◌∙◌}
use native.Mathlib.Omega.{arith}
use Rattle.wire.specs.Word.{Bytes}
use Rattle.questions.specs.Questions.{first_of}
use Rattle.relocate.specs.declared.Cursor.{Cursor}
use Rattle.relocate.specs.Stopped.{cursor}
use Rattle.relocate.specs.Plan.{records_of}
use Rattle.thread.specs.Thread.{thread_of, frame_at, stopped_at}
use Rattle.thread.specs.Code.{Sited}
use Rattle.thread.proofs.Parts.{stopped-at}
use Rattle.thread_extents.proofs.Earlier.{extent-is, sited-function, sited-size}
use Rattle.thread_extents.proofs.extent.Goals as goal

pub frame_at-frame-requires : goal.frame_at-frame-requires
frame_at-frame-requires c =
    let r = c.requires.0.room in
    let l = c.requires.3 in
    omega arith

pub of_frame-found-requires : goal.of_frame-found-requires
unfolding frame_at
of_frame-found-requires c = (c.requires.0.section_right, c.requires.0.most, c.requires.0.gathered.sorted, rw c.frame_at-frame.ensures (c.requires.0.gathered.each _ c.requires.3), c.requires.0.found)

pub stack_size-size-requires : goal.stack_size-size-requires
unfolding stopped_at
stack_size-size-requires c =
    let a = c.args in
    let th = thread_of a.machine a.frames.now a.registers.now in
    let t : Sited a.s.now (stopped_at th a.k) = c.requires.2.at _ c.requires.3 in
    let w : Bytes a.s.now = record { below = λ i. (c.shared_slice_known-1.given i).fits } in
    let e : c.of_frame-found.result ≡ first_of (records_of a.s.now (stopped_at th a.k).frame) =
    rw c.frame_at-frame.ensures at c.of_frame-found.ensures in
    sited-function a.s.now (stopped_at th a.k) t c.requires.0.section_right w _ e

pub returns : goal.returns
unfolding stopped_at
returns c =
    let a = c.args in
    let th = thread_of a.machine a.frames.now a.registers.now in
    let t : Sited a.s.now (stopped_at th a.k) = c.requires.2.at _ c.requires.3 in
    let w : Bytes a.s.now = record { below = λ i. (c.shared_slice_known-1.given i).fits } in
    let e : c.of_frame-found.result ≡ first_of (records_of a.s.now (stopped_at th a.k).frame) =
    rw c.frame_at-frame.ensures at c.of_frame-found.ensures in
    let z = c.stack_size-size.ensures ∙ sited-size a.s.now (stopped_at th a.k) t c.requires.0.section_right w _ e in
    let x : c.cursor-at.result ≡ cursor (stopped_at th a.k) =
    c.cursor-at.ensures ∙ ap cursor (stopped-at th a.k (32 * a.k + 32 - 32 * a.k) _ c.frame_at-frame.ensures (omega arith)) in
    let y = extent-is a.s.now (stopped_at th a.k) t in
    (ap (λ (r : Cursor). r.sp) x ∙ sym y.0, rw (x, z) (sym y.1))

pub overflow_add-result : goal.overflow_add-result
unfolding stopped_at
overflow_add-result c =
    let a = c.args in
    let th = thread_of a.machine a.frames.now a.registers.now in
    let t : Sited a.s.now (stopped_at th a.k) = c.requires.2.at _ c.requires.3 in
    let w : Bytes a.s.now = record { below = λ i. (c.shared_slice_known-1.given i).fits } in
    let e : c.of_frame-found.result ≡ first_of (records_of a.s.now (stopped_at th a.k).frame) =
    rw c.frame_at-frame.ensures at c.of_frame-found.ensures in
    let z = c.stack_size-size.ensures ∙ sited-size a.s.now (stopped_at th a.k) t c.requires.0.section_right w _ e in
    let x : c.cursor-at.result ≡ cursor (stopped_at th a.k) =
    c.cursor-at.ensures ∙ ap cursor (stopped-at th a.k (32 * a.k + 32 - 32 * a.k) _ c.frame_at-frame.ensures (omega arith)) in
    omega (arith, t.ends, ap (λ (r : Cursor). r.sp) x)
