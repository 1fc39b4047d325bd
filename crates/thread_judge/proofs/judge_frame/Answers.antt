use Prim.Native.Nat.{◌+◌, ◌*◌, ◌-◌}
use mathlib.Core.Path.{◌≡◌}
use native.Mathlib.Omega.{arith}
use Rattle.questions.specs.Questions.{first_of, sought}
use Rattle.relocate.specs.Restore.{restore}
use Rattle.relocate.specs.Stopped.{cursor}
use Rattle.relocate.specs.Plan.{records_of}
use Rattle.thread.specs.Thread.{thread_of, frame_at}
use Rattle.thread.proofs.Parts.{stopped-at}
use Rattle.thread_judge.proofs.Frames.{frame-plan, frame-judged}
use borrow.Author.Rules.{rules}
use Rattle.thread_judge.proofs.judge_frame.Goals as goal

pub of_frame-found-requires : goal.of_frame-found-requires
unfolding frame_at
of_frame-found-requires c = (c.requires.0.looked.section_right, c.requires.0.looked.most, c.requires.0.looked.gathered.sorted, rw c.frame_at-frame.ensures (c.requires.0.looked.gathered.each _ c.requires.1), c.requires.0.looked.found)

pub overflow_add-p-2 : goal.overflow_add-p-2
overflow_add-p-2 c = omega (arith, c.requires.1, c.requires.0.looked.most)

pub offset_bounds-registers-p-2 : goal.offset_bounds-registers-p-2
offset_bounds-registers-p-2 c = omega (arith, c.requires.1, c.requires.0.looked.most)

pub judge_found-requires : goal.judge_found-requires
unfolding records_of cursor
judge_found-requires c =
    let a = c.args in
    let f = c.cursor-at.result in
    let e : c.of_frame-found.result ≡ first_of (sought a.s.now f.function f.address) = rw c.cursor-at.ensures
    c.of_frame-found.ensures in
    (c.requires.0.looked.section_right, e, c.requires.0.image_right, c.requires.0.table_right, c.requires.0.most_right, search rules)

pub returns : goal.returns
returns c =
    let a = c.args in
    let R = restore a.s.now a.olds.now a.news.now a.first a.settings in
    let th = thread_of a.machine a.frames.now a.registers.now in
    let n = 32 * a.k + 32 - 32 * a.k in
    let g = c.frame_at-frame in
    let f = c.cursor-at in
    let e = stopped-at th a.k n g.result g.ensures (omega arith) in
    frame-judged R a.image.now th a.k n g.result e f.result f.ensures _ _ _ _
    (c.judge_found.ensures g.result a.settings f.ensures
    (frame-plan R a.image.now th a.k n g.result e f.result f.ensures a.count c.requires.0.registers_right c.requires.1 c.requires.0.looked.section_right c.requires.0.allowed_right c.requires.0.image_right c.requires.0.table_right))
