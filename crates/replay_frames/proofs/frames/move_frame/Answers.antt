use mathlib.Core.Path.{sym, ◌∙◌}
use native.Mathlib.Omega.{arith}
use lib.ListN.{length}
use Rattle.questions.proofs.Standing.{tables-inside}
use Rattle.relocate.specs.Restore.{restore}
use Rattle.replay.specs.Trace.{step_at}
use Rattle.replay.specs.Code.{frame_number}
use Rattle.replay_frames.proofs.Moving.{early-is, early-refused}
use Rattle.replay_frames.proofs.frames.move_frame.Goals as goal

pub is_old-requires : goal.is_old-requires
is_old-requires c =
    let i = tables-inside c.args.s.now (length c.args.s.now) c.requires.0.looked.section_right in
    omega arith

pub returns-then-number-ne0 : goal.returns-then-number-ne0
unfolding step_at
returns-then-number-ne0 c =
    let a = c.args in
    let R = restore a.s.now a.olds.now a.news.now a.first a.settings in
    let g = c.requires.0 in
    let e = early-is R (length a.image.now) c.frame_at-frame.result.machine _ _ _ c.is_old.ensures g.fault_is c.early-number.ensures in
    rw c.refused.ensures
    (early-refused R a.image.now g.looked.section_right (frame_number a.t.now a.k) _ (rw c.frame_at-frame.ensures at e) (omega arith))

pub move_found-requires : goal.move_found-requires
move_found-requires c =
    let a = c.args in
    let R = restore a.s.now a.olds.now a.news.now a.first a.settings in
    let g = c.requires.0 in
    let e = early-is R (length a.image.now) c.frame_at-frame.result.machine _ _ _ c.is_old.ensures g.fault_is c.early-number.ensures in
    (g, c.requires.1, c.requires.2, c.frame_at-frame.ensures, sym e ∙ c.if-number-ne0.false)
