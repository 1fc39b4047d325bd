use Prim.Native.Nat.{◌-◌}
use native.Mathlib.Omega.{arith}
use lib.ListN.{length}
use Rattle.relocate_plan.proofs.Following.{extent_tells}
use Rattle.relocate_judge.proofs.Leading.{placed_end, leads_19, leads_stop, leads_held}
use Rattle.relocate_judge.proofs.of_outline.Goals as goal

pub returns-then-out-outline : goal.returns-then-out-outline
returns-then-out-outline c g settings l =
    let a = c.args in
    let i = c.fill-out in
    leads_19 a.s.now a.olds.now a.news.now a.first settings a.image.now g a.registers.now a.frame a.outline c.requires.0 l
    i.result i.ensures.0 c.if-out-outline.true _ c.refused.ensures _ _ _

pub overflow_sub-off : goal.overflow_sub-off
overflow_sub-off c =
    let a = c.args in
    omega (arith, extent_tells a.first (length a.image.now) a.frame.sp a.outline.size c.requires.0.extent)

pub overflow_add-off : goal.overflow_add-off
overflow_add-off c =
    let a = c.args in
    omega (arith, extent_tells a.first (length a.image.now) a.frame.sp a.outline.size c.requires.0.extent)

pub judge_window-m-requires : goal.judge_window-m-requires
judge_window-m-requires c =
    let a = c.args in
    let o = c.requires.0 in
    let x = extent_tells a.first (length a.image.now) a.frame.sp a.outline.size o.extent in (
      omega arith,
      omega arith,
      o.formed.few,
      o.formed.few,
      omega (arith, o.small),
      omega (arith, c.requires.2),
      rw c.requires.2 (placed_end (a.frame.sp - a.first) a.outline.size _ _ _ _ _ o.formed.counted
          (c.fill-out.ensures.3 c.if-out-outline.false)),
      c.requires.3,
    )

pub at_pair-answer-requires : goal.at_pair-answer-requires
at_pair-answer-requires c = c.requires.0.formed.paired

pub returns-then-answer-ne0 : goal.returns-then-answer-ne0
returns-then-answer-ne0 c g settings l =
    let a = c.args in
    let i = c.fill-out in
    let p = c.at_pair-answer in
    let j = c.judge_window-m in
    let in_all = c.if-out-outline.false in
    leads_stop a.s.now a.olds.now a.news.now a.first settings a.image.now g a.registers.now a.frame a.outline c.requires.0 l
    i.result i.ensures.0 in_all _ _ _ (i.ensures.2 in_all) (i.ensures.3 in_all) p.result j.result (p.ensures a.frame) j.ensures
    (λ z. omega arith) _ c.refused-then-answer-ne0.ensures

pub returns : goal.returns
returns c g settings l =
    let a = c.args in
    let i = c.fill-out in
    let p = c.at_pair-answer in
    let j = c.judge_window-m in
    let in_all = c.if-out-outline.false in
    leads_held a.s.now a.olds.now a.news.now a.first settings a.image.now g a.registers.now a.frame a.outline c.requires.0 l
    i.result i.ensures.0 in_all _ _ _ (i.ensures.2 in_all) (i.ensures.3 in_all) p.result j.result (p.ensures a.frame) j.ensures
    (omega arith) c.requires.1 c.requires.3 c.requires.2 c.requires.4
