use Prim.Native.Nat.{◌≤◌}
use mathlib.Core.Path.{sym, ap, ◌∙◌}
use native.Mathlib.Omega.{arith}
use lib.ListN.{length}
use Rattle.moves.specs.declared.Move.{Move}
use Rattle.moves.specs.Settle.{accepted_move}
use Rattle.relocate.specs.Restore.{restore}
use Rattle.relocate.specs.Stopped.{stopped}
use Rattle.relocate.specs.Relocation.{answer}
use Rattle.relocate_judge.proofs.Leading.{judged-cursor}
use Rattle.explain.specs.Rows.{rows_of}
use Rattle.explain_outline.proofs.Meets.{held-length}
use Rattle.explain_outline.proofs.Answers.{rows-no, rows-24, rows-yes, list-kept, list_written}
use Rattle.explain_frame.proofs.explain.Goals as goal

pub returns-then-outline-ne0 : goal.returns-then-outline-ne0
returns-then-outline-ne0 c =
    let a = c.args in
    let R = restore a.section.now a.olds.now a.news.now a.first a.settings in
    let im = a.image.now in
    let st = stopped a.frame a.registers.now in
    let j = c.judge-outline in
    let no = j.ensures.refused c.if-outline-ne0.true in
    let e = rows-no (answer R im st) (rows_of R im st 0) a.rows.now j.result.number j.result.place no.0 no.1 c.if-outline-ne0.true in
    (c.refused.ensures ∙ sym e, sym (list-kept (answer R im st) (rows_of R im st 0) a.rows.now j.result.number j.result.place e c.if-outline-ne0.true))

pub overflow_mul-numbers : goal.overflow_mul-numbers
overflow_mul-numbers c = omega (arith, (c.judge-outline.ensures.held c.if-outline-ne0.false).stands.formed.few)

pub returns-then-rows-numbers : goal.returns-then-rows-numbers
returns-then-rows-numbers c =
    let a = c.args in
    let R = restore a.section.now a.olds.now a.news.now a.first a.settings in
    let im = a.image.now in
    let st = stopped a.frame a.registers.now in
    let j = c.judge-outline in
    let h = j.ensures.held c.if-outline-ne0.false in
    let n = held-length R im st _ j.result _ _ _ h 0 in
    let e = rows-24 (answer R im st) (rows_of R im st 0) a.rows.now (ap (λ (m : Move). m.number) h.answer_is) (let l = c.if-rows-numbers.true in omega arith) in
    (c.refused-then-rows-numbers.ensures ∙ sym e, sym (list-kept (answer R im st) (rows_of R im st 0) a.rows.now 24 0 e (λ z. absurd (omega arith))))

pub cursor-at-requires : goal.cursor-at-requires
cursor-at-requires c = (c.judge-outline.ensures.held c.if-outline-ne0.false).registers_right

pub put_frame-requires : goal.put_frame-requires
put_frame-requires c =
    let a = c.args in
    let R = restore a.section.now a.olds.now a.news.now a.first a.settings in
    let im = a.image.now in
    let st = stopped a.frame a.registers.now in
    let j = c.judge-outline in
    let f = c.cursor-at in
    let h = (judged-cursor R im st _ f.result j.result _ _ _ (sym f.ensures) j.ensures).held c.if-outline-ne0.false in
    (h.stands, h.registers_right, h.image_right, h.table_right, h.placed, let l = c.if-rows-numbers.false in omega arith)

pub returns : goal.returns
returns c =
    let a = c.args in
    let R = restore a.section.now a.olds.now a.news.now a.first a.settings in
    let im = a.image.now in
    let st = stopped a.frame a.registers.now in
    let j = c.judge-outline in
    let f = c.cursor-at in
    let h = (judged-cursor R im st _ f.result j.result _ _ _ (sym f.ensures) j.ensures).held c.if-outline-ne0.false in
    let n = held-length R im st _ j.result _ _ _ h 0 in
    let z = ap (λ (m : Move). m.number) h.answer_is in
    let l : length (rows_of R im st 0) ≤ length a.rows.now = let k = c.if-rows-numbers.false in omega arith in
    (ap accepted_move (sym n) ∙ sym (rows-yes (answer R im st) (rows_of R im st 0) a.rows.now z l), c.put_frame.ensures a.frame a.settings h ∙ sym (list_written (answer R im st) (rows_of R im st 0) a.rows.now z l))
