use Prim.Native.Nat.{ℕ}
use mathlib.Core.Path.{refl, sym, ap, ◌∙◌}
use native.Mathlib.Omega.{arith}
use lib.ListN.{length}
use Rattle.moves.specs.Settle.{accepted_move}
use Rattle.relocate.specs.Restore.{restore}
use Rattle.thread.specs.Thread.{thread_of, frames_from, pointers_in}
use Rattle.thread_call.proofs.Judging.{judging_start, judging_few, judging_on, judging_stop, judging_end}
use Rattle.thread_call.proofs.frames.judge.Goals as goal

pub loop-k-init : goal.loop-k-init
loop-k-init c =
    let a = c.args in
    let R = restore a.s.now a.olds.now a.news.now a.first a.settings in
    let th = thread_of a.machine a.frames.now a.registers.now in
    (judging_start R a.image.now th a.count (accepted_move (pointers_in R a.image.now (frames_from th a.count 0))), refl, refl)

pub settle_frame-m-requires : goal.settle_frame-m-requires
settle_frame-m-requires c =
    let inv = c.loop-k.invariant in
    (rw (inv.1, inv.2) c.requires, c.loop-k-test.true)

pub shape_of-image-then-m-ne0 : goal.shape_of-image-then-m-ne0
shape_of-image-then-m-ne0 c = c.settle_frame-m.auto.image ∙ ap length c.loop-k.invariant.1

pub shape_of-registers-then-m-ne0 : goal.shape_of-registers-then-m-ne0
shape_of-registers-then-m-ne0 c = c.settle_frame-m.auto.registers ∙ ap length c.loop-k.invariant.2

pub returns-then-m-ne0 : goal.returns-then-m-ne0
returns-then-m-ne0 c =
    let a = c.args in
    let R = restore a.s.now a.olds.now a.news.now a.first a.settings in
    let th = thread_of a.machine a.frames.now a.registers.now in
    let inv = c.loop-k.invariant in
    let m = c.settle_frame-m in
    let e = rw (inv.1, inv.2) at m.ensures.0 in (
      c.refused.ensures ∙ judging_stop R a.image.now th a.count (accepted_move (pointers_in R a.image.now (frames_from th a.count 0))) inv.0 c.loop-k-test.true m.result e c.if-m-ne0.true,
      m.ensures.1 ∙ inv.1,
      m.ensures.2 ∙ inv.2,
    )

pub overflow_add-sum : goal.overflow_add-sum
overflow_add-sum c =
    let a = c.args in
    let R = restore a.s.now a.olds.now a.news.now a.first a.settings in
    let th = thread_of a.machine a.frames.now a.registers.now in
    let inv = c.loop-k.invariant in
    let m = c.settle_frame-m in
    let e = rw (inv.1, inv.2) at m.ensures.0 in
    let w = judging_few R a.image.now th a.count (accepted_move (pointers_in R a.image.now (frames_from th a.count 0))) inv.0 c.loop-k-test.true m.result e in
    omega (arith, w, inv.0.few, inv.0.most, c.requires.looked.most, c.requires.most_right)

pub loop-k-preserved : goal.loop-k-preserved
loop-k-preserved c =
    let a = c.args in
    let R = restore a.s.now a.olds.now a.news.now a.first a.settings in
    let th = thread_of a.machine a.frames.now a.registers.now in
    let inv = c.loop-k.invariant in
    let m = c.settle_frame-m in
    let e = rw (inv.1, inv.2) at m.ensures.0 in (
      judging_on R a.image.now th a.count (accepted_move (pointers_in R a.image.now (frames_from th a.count 0))) inv.0 c.loop-k-test.true m.result e c.requires.most_right c.if-m-ne0.false,
      m.ensures.1 ∙ inv.1,
      m.ensures.2 ∙ inv.2,
    )

pub shape_of-image : goal.shape_of-image
shape_of-image c = rw c.loop-k.invariant.1

pub shape_of-registers : goal.shape_of-registers
shape_of-registers c = rw c.loop-k.invariant.2

pub returns : goal.returns
returns c =
    let a = c.args in
    let R = restore a.s.now a.olds.now a.news.now a.first a.settings in
    let th = thread_of a.machine a.frames.now a.registers.now in
    let inv = c.loop-k.invariant in
    let e = judging_end R a.image.now th a.count (accepted_move (pointers_in R a.image.now (frames_from th a.count 0))) inv.0 c.loop-k-test.false in
    (ap (λ (n : ℕ). accepted_move n) (sym e.1) ∙ sym e.0, inv.1, inv.2)
