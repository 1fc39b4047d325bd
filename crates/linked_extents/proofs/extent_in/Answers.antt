use mathlib.Core.Path.{◌≡◌, sym, ap, ◌∙◌}
use native.Mathlib.Omega.{arith}
use Rattle.wire.specs.Word.{Bytes}
use Rattle.relocate.specs.declared.Cursor.{Cursor}
use Rattle.relocate.specs.Stopped.{stopped, cursor}
use Rattle.relocate_frame.proofs.Stages.{registers_32}
use Rattle.thread_extents.proofs.Earlier.{extent-is, sited-function, sited-size}
use Rattle.linked_extents.proofs.extent_in.Goals as goal

pub returns : goal.returns
returns c =
    let a = c.args in
    let st = stopped a.frame a.registers.now in
    let w : Bytes a.map.now = record { below = λ i. (c.shared_slice_known-1.given i).fits } in
    let z = c.stack_size-size.ensures ∙ sited-size a.map.now st c.requires.2 c.requires.0 w _ c.requires.1 in
    let x : c.cursor-at.result ≡ cursor st = c.cursor-at.ensures in
    let y = extent-is a.map.now st c.requires.2 in
    (ap (λ (r : Cursor). r.sp) x ∙ sym y.0, rw (x, z) (sym y.1))

pub stack_size-size-requires : goal.stack_size-size-requires
stack_size-size-requires c =
    let a = c.args in
    let w : Bytes a.map.now = record { below = λ i. (c.shared_slice_known-1.given i).fits } in
    sited-function a.map.now (stopped a.frame a.registers.now) c.requires.2 c.requires.0 w _ c.requires.1

pub cursor-at-requires : goal.cursor-at-requires
cursor-at-requires c = registers_32 c.args.registers.now c.requires.2.right

pub overflow_add-result : goal.overflow_add-result
overflow_add-result c =
    let a = c.args in
    let st = stopped a.frame a.registers.now in
    let w : Bytes a.map.now = record { below = λ i. (c.shared_slice_known-1.given i).fits } in
    let z = c.stack_size-size.ensures ∙ sited-size a.map.now st c.requires.2 c.requires.0 w _ c.requires.1 in
    let x : c.cursor-at.result ≡ cursor st = c.cursor-at.ensures in
    omega (arith, c.requires.2.ends, ap (λ (r : Cursor). r.sp) x)
