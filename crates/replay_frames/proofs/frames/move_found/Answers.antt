use mathlib.Core.List.{[]}
use mathlib.Core.Path.{◌≡◌, ap, ◌∙◌}
use lib.ListN.{length}
use Rattle.questions.specs.Questions.{first_of, sought}
use Rattle.relocate.specs.Restore.{restore}
use Rattle.relocate.specs.Stopped.{stopped, cursor}
use Rattle.relocate.specs.Plan.{records_of}
use Rattle.relocate.specs.Relocation.{answer, moved}
use Rattle.replay_frames.proofs.Gathering.{gathered-at}
use Rattle.replay_frames.proofs.Moving.{frame_is, registers_32, early-passed, one-moved}
use Rattle.replay_frames.proofs.frames.move_found.Goals as goal

pub of_frame-found-requires : goal.of_frame-found-requires
of_frame-found-requires c =
    let a = c.args in
    let g = c.requires.0.looked in
    (g.section_right, g.most, g.gathered.sorted, rw c.requires.3 (gathered-at a.t.now a.i a.keys.now a.n a.k g.gathered c.requires.1 c.requires.2), g.found)

pub move_found-requires : goal.move_found-requires
unfolding records_of cursor
move_found-requires c =
    let a = c.args in
    let R = restore a.s.now a.olds.now a.news.now a.first a.settings in
    let g = c.requires.0 in
    let f = c.cursor-at.result in
    let h = c.of_frame-found in
    let e : h.result ≡ first_of (sought a.s.now f.function f.address) = rw c.cursor-at.ensures h.ensures in
    let p = early-passed R a.image.now g.looked.section_right (stopped a.frame []) c.requires.4 in
    (g.looked.section_right, e, p.1, p.2, g.most_right, ap length c.read_registers.ensures ∙ registers_32 _ _)

pub returns : goal.returns
returns c =
    let a = c.args in
    let R = restore a.s.now a.olds.now a.news.now a.first a.settings in
    let g = c.requires.0 in
    let d = c.read_registers.ensures in
    let e = frame_is a.t.now a.k a.frame _ c.requires.3 d in
    let w = c.cursor-at in
    let m = c.move_found.ensures in
    let o = one-moved R a.image.now g.looked.section_right (stopped a.frame _) c.requires.4 (ap length d ∙ registers_32 _ _) w.result w.ensures _ _ _ m in
    (o.0 ∙ ap (answer R a.image.now) e, o.1 ∙ ap (moved R a.image.now) e)
