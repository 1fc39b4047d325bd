use Prim.Native.Nat.{ℕ}
use mathlib.Core.Path.{◌≡◌, refl, sym, ap, ◌∙◌}
use native.Mathlib.Omega.{arith}
use Rattle.moves.specs.declared.Move.{Move}
use Rattle.moves.specs.Settle.{refused_move, accepted_move}
use Rattle.relocate.specs.Restore.{restore}
use Rattle.relocate.specs.Relocation.{answer}
use Rattle.thread.specs.Thread.{thread_of, stopped_at, frames_from, pointers_in}
use Rattle.thread_call.proofs.Judging.{judging_start, judging_on, judging_stop, judging_end}
use Rattle.thread_judge.proofs.judge_frames.Goals as goal

pub loop-k-init : goal.loop-k-init
loop-k-init c =
    let a = c.args in
    let R = restore a.s.now a.olds.now a.news.now a.first a.settings in
    let th = thread_of a.machine a.frames.now a.registers.now in
    judging_start R a.image.now th a.count (accepted_move (pointers_in R a.image.now (frames_from th a.count 0)))

pub judge_frame-outline-requires : goal.judge_frame-outline-requires
judge_frame-outline-requires c = (c.requires, (omega arith))

pub returns-then-outline-ne0 : goal.returns-then-outline-ne0
returns-then-outline-ne0 c =
    let a = c.args in
    let R = restore a.s.now a.olds.now a.news.now a.first a.settings in
    let th = thread_of a.machine a.frames.now a.registers.now in
    let j = c.judge_frame-outline in
    let no = j.ensures.refused c.if-outline-ne0.true in
    let m = answer R a.image.now (stopped_at th c.loop-k.k) in
    c.refused.ensures ∙ ap (λ (n : ℕ). refused_move n c.loop-k.k) (sym no.0)
    ∙ judging_stop R a.image.now th a.count (accepted_move (pointers_in R a.image.now (frames_from th a.count 0))) c.loop-k.invariant
    (omega arith) m refl (λ z. c.if-outline-ne0.true (sym no.0 ∙ z))

pub overflow_add-sum : goal.overflow_add-sum
overflow_add-sum c =
    omega (
      arith,
      (c.judge_frame-outline.ensures.held c.if-outline-ne0.false).stands.formed.few,
      c.loop-k.invariant.few,
      c.loop-k.invariant.most,
      c.requires.looked.most,
    )

pub loop-k-preserved : goal.loop-k-preserved
loop-k-preserved c =
    let a = c.args in
    let R = restore a.s.now a.olds.now a.news.now a.first a.settings in
    let th = thread_of a.machine a.frames.now a.registers.now in
    let j = c.judge_frame-outline in
    let l = c.loop-k in
    let m = answer R a.image.now (stopped_at th l.k) in
    let is = (j.ensures.held c.if-outline-ne0.false).answer_is in
    let n : m.count ≡ j.result.pointers = ap (λ (x : Move). x.count) is in
    rw (← n) (judging_on R a.image.now th a.count (accepted_move (pointers_in R a.image.now (frames_from th a.count 0))) l.invariant (omega arith) m refl
    c.requires.most_right (ap (λ (x : Move). x.number) is))

pub returns : goal.returns
returns c =
    let a = c.args in
    let R = restore a.s.now a.olds.now a.news.now a.first a.settings in
    let th = thread_of a.machine a.frames.now a.registers.now in
    let e = judging_end R a.image.now th a.count (accepted_move (pointers_in R a.image.now (frames_from th a.count 0))) c.loop-k.invariant (omega arith) in
    ap (λ (n : ℕ). accepted_move n) (sym e.1) ∙ sym e.0
