use Prim.Native.Nat.{◌+◌, ◌*◌, ◌-◌}
use mathlib.Core.Path.{◌≡◌, ap, ◌∙◌}
use native.Mathlib.Omega.{arith}
use Rattle.questions.specs.Questions.{first_of, sought}
use Rattle.relocate.specs.Restore.{restore}
use Rattle.relocate.specs.Stopped.{cursor}
use Rattle.relocate.specs.Plan.{records_of}
use Rattle.thread.specs.Thread.{thread_of, frame_at, stopped_at}
use Rattle.thread.proofs.Parts.{stopped-at}
use Rattle.thread_call.proofs.Moving.{one-moved}
use borrow.Author.Rules.{rules}
use Rattle.thread_call.proofs.frames.settle_frame.Goals as goal

pub returns : goal.returns
returns c =
    let a = c.args in
    let th = thread_of a.machine a.frames.now a.registers.now in
    let e : c.cursor-at.result ≡ cursor (stopped_at th a.k) =
    c.cursor-at.ensures ∙ ap cursor (stopped-at th a.k (32 * a.k + 32 - 32 * a.k) _ c.frame_at-frame.ensures (omega arith)) in
    one-moved (restore a.s.now a.olds.now a.news.now a.first a.settings) a.image.now c.requires.0.looked.section_right c.requires.0.image_right c.requires.0.table_right
    th c.requires.0.allowed_right a.count a.k c.requires.0.registers_right c.requires.1 c.cursor-at.result e a.write _ _ _ (32 * a.k + 32 - 32 * a.k) (omega arith)
    c.move_found.ensures

pub frame_at-frame-requires : goal.frame_at-frame-requires
frame_at-frame-requires c =
    let r = c.requires.0.looked.room in
    let l = c.requires.1 in
    omega arith

pub of_frame-found-requires : goal.of_frame-found-requires
unfolding frame_at
of_frame-found-requires c = (c.requires.0.looked.section_right, c.requires.0.looked.most, c.requires.0.looked.gathered.sorted, rw c.frame_at-frame.ensures (c.requires.0.looked.gathered.each _ c.requires.1), c.requires.0.looked.found)

pub overflow_add-p-2 : goal.overflow_add-p-2
overflow_add-p-2 c = omega (arith, c.requires.1, c.requires.0.looked.most)

pub offset_bounds-registers-p-2 : goal.offset_bounds-registers-p-2
offset_bounds-registers-p-2 c = omega (arith, c.requires.1, c.requires.0.looked.most)

pub move_found-requires : goal.move_found-requires
unfolding records_of cursor
move_found-requires c =
    let a = c.args in
    let f = c.cursor-at.result in
    let e : c.of_frame-found.result ≡ first_of (sought a.s.now f.function f.address) =
    rw c.cursor-at.ensures c.of_frame-found.ensures in
    (c.requires.0.looked.section_right, e, c.requires.0.image_right, c.requires.0.table_right, c.requires.0.most_right, search rules)
