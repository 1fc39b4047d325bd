use native.Mathlib.Omega.{arith}
use Rattle.relocate.specs.Restore.{restore}
use Rattle.replay.proofs.Replaying.{done_step}
use Rattle.replay_frames.proofs.frames.replay_step.Goals as goal

pub note-requires : goal.note-requires
note-requires c = (c.requires.0.looked.holds, let r = c.requires.0.looked.room in let l = c.requires.2 in omega arith)

pub returns : goal.returns
returns c =
    let a = c.args in
    let R = restore a.s.now a.olds.now a.news.now a.first a.settings in
    let m = c.move_frame-m in
    let r = c.requires.0.looked.room in
    done_step R a.t.now a.all (let l = c.requires.2 in omega arith) (rw m.ensures.0 at c.note.ensures) m.ensures.1 m.auto.image
