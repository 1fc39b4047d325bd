use mathlib.Core.Path.{sym, ◌∙◌}
use native.Mathlib.Omega.{arith}
use borrow.Author.Tests.{eqb-true}
use Rattle.wire.specs.Word.{Bytes}
use Rattle.relocate_glance.proofs.Laws.{framed, stacked}
use Rattle.relocate_glance.proofs.is_slot.Goals as goal

pub returns-then-w-at_frame_pointer : goal.returns-then-w-at_frame_pointer
returns-then-w-at_frame_pointer c =
    let w : Bytes c.args.s.now = record { below = λ i. omega (arith, c.type_inv.s i) } in
    λ h. framed _ _ _ w (sym c.u64_at-w.ensures ∙ c.if-w-at_frame_pointer.true ∙ c.at_frame_pointer.ensures)

pub returns-else-w-at_frame_pointer : goal.returns-else-w-at_frame_pointer
returns-else-w-at_frame_pointer c =
    let w : Bytes c.args.s.now = record { below = λ i. omega (arith, c.type_inv.s i) } in
    λ h. stacked _ _ _ w (sym c.u64_at-w.ensures ∙ eqb-true _ _ h ∙ c.at_stack_pointer.ensures)
