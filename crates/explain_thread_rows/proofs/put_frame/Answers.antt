use Prim.Native.Nat.{◌+◌, ◌*◌, ◌-◌}
use mathlib.Core.Path.{sym, ap, ◌∙◌}
use native.Mathlib.Omega.{arith}
use lib.Seq.{sets}
use Rattle.moves.specs.declared.Move.{Move}
use Rattle.relocate.specs.Restore.{restore}
use Rattle.relocate.specs.Stopped.{Stopped}
use Rattle.relocate.specs.Relocation.{answer}
use Rattle.thread.specs.Thread.{thread_of}
use Rattle.thread.proofs.Parts.{stopped-at}
use Rattle.explain.specs.Rows.{rows_of}
use Rattle.explain_thread_rows.proofs.Lent.{held_lent}
use Rattle.explain_thread_rows.proofs.put_frame.Goals as goal

pub overflow_mul-p : goal.overflow_mul-p
overflow_mul-p c = omega (arith, c.requires.1, c.requires.0.looked.most)

pub overflow_add-p : goal.overflow_add-p
overflow_add-p c = omega (arith, c.requires.1, c.requires.0.looked.most)

pub offset_bounds-registers-p : goal.offset_bounds-registers-p
offset_bounds-registers-p c = omega (arith, c.requires.1, c.requires.0.looked.most)

pub slice_bounds-cursor-end : goal.slice_bounds-cursor-end
slice_bounds-cursor-end c = omega (arith, c.requires.1, c.requires.0.registers_right)

pub overflow_add-p-2 : goal.overflow_add-p-2
overflow_add-p-2 c = omega (arith, c.requires.1, c.requires.0.looked.most)

pub offset_bounds-registers-p-2 : goal.offset_bounds-registers-p-2
offset_bounds-registers-p-2 c = omega (arith, c.requires.1, c.requires.0.looked.most)

pub slice_bounds-put_frame-end : goal.slice_bounds-put_frame-end
slice_bounds-put_frame-end c = omega (arith, c.requires.1, c.requires.0.registers_right)

pub put_frame-requires : goal.put_frame-requires
put_frame-requires c =
    let a = c.args in
    let R = restore a.s.now a.olds.now a.news.now a.first a.settings in
    let th = thread_of a.machine a.frames.now a.registers.now in
    let n = 32 * a.k + 32 - 32 * a.k in
    let g = c.frame_at-frame in
    let f = c.cursor-at in
    let j = c.judge_frame-outline in
    let e = stopped-at th a.k n g.result g.ensures (omega arith) in
    let h = held_lent R a.image.now th a.k n g.result f.result j.result _ _ _ e f.ensures c.requires.2 j.ensures in
    let q = ap (λ (st : Stopped). (answer R a.image.now st).count) (sym e) ∙ ap (λ (m : Move). m.count) h.answer_is in
    (h.stands, h.registers_right, h.image_right, h.table_right, h.placed, omega (arith, c.requires.3, q))

pub overflow_mul-result : goal.overflow_mul-result
overflow_mul-result c =
    let a = c.args in
    let R = restore a.s.now a.olds.now a.news.now a.first a.settings in
    let th = thread_of a.machine a.frames.now a.registers.now in
    let n = 32 * a.k + 32 - 32 * a.k in
    let g = c.frame_at-frame in
    let f = c.cursor-at in
    let j = c.judge_frame-outline in
    let e = stopped-at th a.k n g.result g.ensures (omega arith) in
    let h = held_lent R a.image.now th a.k n g.result f.result j.result _ _ _ e f.ensures c.requires.2 j.ensures in
    let q = ap (λ (st : Stopped). (answer R a.image.now st).count) (sym e) ∙ ap (λ (m : Move). m.count) h.answer_is in
    omega (arith, h.stands.formed.few)

pub overflow_add-result : goal.overflow_add-result
overflow_add-result c =
    let a = c.args in
    let R = restore a.s.now a.olds.now a.news.now a.first a.settings in
    let th = thread_of a.machine a.frames.now a.registers.now in
    let n = 32 * a.k + 32 - 32 * a.k in
    let g = c.frame_at-frame in
    let f = c.cursor-at in
    let j = c.judge_frame-outline in
    let e = stopped-at th a.k n g.result g.ensures (omega arith) in
    let h = held_lent R a.image.now th a.k n g.result f.result j.result _ _ _ e f.ensures c.requires.2 j.ensures in
    let q = ap (λ (st : Stopped). (answer R a.image.now st).count) (sym e) ∙ ap (λ (m : Move). m.count) h.answer_is in
    omega (arith, c.requires.4, h.stands.formed.few)

pub returns : goal.returns
returns c =
    let a = c.args in
    let R = restore a.s.now a.olds.now a.news.now a.first a.settings in
    let th = thread_of a.machine a.frames.now a.registers.now in
    let n = 32 * a.k + 32 - 32 * a.k in
    let g = c.frame_at-frame in
    let f = c.cursor-at in
    let j = c.judge_frame-outline in
    let e = stopped-at th a.k n g.result g.ensures (omega arith) in
    let h = held_lent R a.image.now th a.k n g.result f.result j.result _ _ _ e f.ensures c.requires.2 j.ensures in
    let q = ap (λ (st : Stopped). (answer R a.image.now st).count) (sym e) ∙ ap (λ (m : Move). m.count) h.answer_is in
    (omega (arith, q), c.put_frame.ensures g.result a.settings h ∙ ap (λ (st : Stopped). sets a.rows.now a.to (rows_of R a.image.now st a.k)) e)
