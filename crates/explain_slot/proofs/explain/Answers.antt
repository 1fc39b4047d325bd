use Prim.Native.Nat.{◌+◌, ◌-◌}
use mathlib.Core.Path.{◌≡◌, sym, ◌∙◌}
use native.Mathlib.Omega.{arith}
use lib.ListN.{length}
use Rattle.moves.proofs.Splice.{part_length}
use Rattle.relocate.specs.Restore.{restore}
use Rattle.relocate.specs.Stopped.{stopped}
use Rattle.relocate_plan.proofs.Following.{extent_tells}
use Rattle.relocate_judge.proofs.Leading.{judged-cursor}
use Rattle.explain.specs.Explain.{slot_of}
use Rattle.explain_slot.proofs.Leading.{tells_refused, tells_slice}
use Rattle.explain_slot.proofs.explain.Goals as goal

pub returns-then-outline-ne0 : goal.returns-then-outline-ne0
returns-then-outline-ne0 c =
    let a = c.args in
    tells_refused (restore a.section.now a.olds.now a.news.now a.first a.settings) a.image.now (stopped a.frame a.registers.now) _ _ _ _ _ (slot_of a.asked)
    c.judge-outline.ensures c.if-outline-ne0.true

pub cursor-at-requires : goal.cursor-at-requires
cursor-at-requires c = (c.judge-outline.ensures.held c.if-outline-ne0.false).registers_right

pub overflow_sub-off : goal.overflow_sub-off
overflow_sub-off c =
    let a = c.args in
    let R = restore a.section.now a.olds.now a.news.now a.first a.settings in
    let f = c.cursor-at in
    let h = (judged-cursor R a.image.now (stopped a.frame a.registers.now) _ f.result _ _ _ _ (sym f.ensures) c.judge-outline.ensures).held c.if-outline-ne0.false in
    let x = extent_tells a.first (length a.image.now) f.result.sp c.judge-outline.result.size h.stands.extent in
    omega arith

pub overflow_add-end : goal.overflow_add-end
overflow_add-end c =
    let a = c.args in
    let R = restore a.section.now a.olds.now a.news.now a.first a.settings in
    let f = c.cursor-at in
    let h = (judged-cursor R a.image.now (stopped a.frame a.registers.now) _ f.result _ _ _ _ (sym f.ensures) c.judge-outline.ensures).held c.if-outline-ne0.false in
    let x = extent_tells a.first (length a.image.now) f.result.sp c.judge-outline.result.size h.stands.extent in
    omega arith

pub slice_bounds-reason-end : goal.slice_bounds-reason-end
slice_bounds-reason-end c =
    let a = c.args in
    let R = restore a.section.now a.olds.now a.news.now a.first a.settings in
    let f = c.cursor-at in
    let h = (judged-cursor R a.image.now (stopped a.frame a.registers.now) _ f.result _ _ _ _ (sym f.ensures) c.judge-outline.ensures).held c.if-outline-ne0.false in
    let x = extent_tells a.first (length a.image.now) f.result.sp c.judge-outline.result.size h.stands.extent in
    omega arith

pub reason-requires : goal.reason-requires
reason-requires c =
    let a = c.args in
    let R = restore a.section.now a.olds.now a.news.now a.first a.settings in
    let f = c.cursor-at in
    let h = (judged-cursor R a.image.now (stopped a.frame a.registers.now) _ f.result _ _ _ _ (sym f.ensures) c.judge-outline.ensures).held
    c.if-outline-ne0.false in
    let x = extent_tells a.first (length a.image.now) f.result.sp c.judge-outline.result.size h.stands.extent in
    let off = f.result.sp - a.first in
    let n = off + c.judge-outline.result.size - off in
    let z : n ≡ c.judge-outline.result.size = omega arith in
    let e = part_length a.image.now off n (omega arith) ∙ z in
    (h.stands.formed.paired, h.stands.formed.few, rw (e, h.registers_right) h.placed, h.table_right)

pub returns : goal.returns
returns c =
    let a = c.args in
    let R = restore a.section.now a.olds.now a.news.now a.first a.settings in
    let f = c.cursor-at in
    let h = (judged-cursor R a.image.now (stopped a.frame a.registers.now) _ f.result _ _ _ _ (sym f.ensures) c.judge-outline.ensures).held
    c.if-outline-ne0.false in
    let x = extent_tells a.first (length a.image.now) f.result.sp c.judge-outline.result.size h.stands.extent in
    let off = f.result.sp - a.first in
    let n = off + c.judge-outline.result.size - off in
    tells_slice R a.image.now (stopped a.frame a.registers.now) f.result c.judge-outline.result _ _ _ (slot_of a.asked) n (omega arith) _
    (c.reason.ensures f.result) h
