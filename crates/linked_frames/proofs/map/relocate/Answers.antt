use mathlib.Core.Path.{◌≡◌}
use Rattle.questions.specs.Questions.{first_of, sought}
use Rattle.relocate.specs.Restore.{restore}
use Rattle.relocate.specs.Stopped.{stopped, cursor}
use Rattle.relocate.specs.Plan.{records_of}
use Rattle.relocate_frame.proofs.Stages.{relocates}
use Rattle.linked_frames.proofs.Plain.{plain-plan}
use Rattle.linked_frames.proofs.map.relocate.Goals as goal

pub move_found-requires : goal.move_found-requires
unfolding records_of cursor
move_found-requires c =
    let f = c.cursor-at.result in
    let e : c.args.found ≡ first_of (sought c.args.map.now f.function f.address) = rw c.cursor-at.ensures c.requires.1 in
    (c.requires.0, e, c.requires.3, c.requires.4, c.requires.5, c.requires.6)

pub returns : goal.returns
returns c =
    let a = c.args in
    let R = restore a.map.now a.olds.now a.news.now a.first a.settings in
    let st = stopped a.frame a.registers.now in
    relocates R a.image.now st _ _ _
    (rw (plain-plan R a.image.now st c.requires.0 c.requires.2 c.requires.3 c.requires.4 c.requires.6 c.cursor-at.result c.cursor-at.ensures) c.move_found.ensures)
