use mathlib.Core.Path.{◌≡◌}
use native.Mathlib.Omega.{arith}
use Rattle.relocate.specs.Restore.{restore}
use Rattle.replay.proofs.Replaying.{done_start, done_join, done_end}
use Rattle.replay_frames.proofs.replay_all.Goals as goal

pub loop-i-init : goal.loop-i-init
loop-i-init c =
    let a = c.args in
    (done_start (restore a.s.now a.olds.now a.news.now a.first a.settings) a.t.now a.all a.image.now, omega arith, c.fault-tested.ensures a.s.now a.settings)

pub replay_part-part-requires : goal.replay_part-part-requires
replay_part-part-requires c =
    let inv = c.loop-i.invariant in
    (c.requires.0, c.loop-i-test.true, c.requires.1, rw inv.0.long inv.2)

pub loop-i-smaller : goal.loop-i-smaller
loop-i-smaller c = let p = c.replay_part-part.ensures.1 in omega arith

pub loop-i-preserved : goal.loop-i-preserved
loop-i-preserved c =
    let a = c.args in
    let inv = c.loop-i.invariant in
    let p = c.replay_part-part.ensures in
    (done_join (restore a.s.now a.olds.now a.news.now a.first a.settings) a.t.now a.all inv.0 p.0, p.2, inv.2)

pub shape_of-image : goal.shape_of-image
shape_of-image c = c.loop-i.invariant.0.long

pub returns : goal.returns
returns c =
    let a = c.args in
    let inv = c.loop-i.invariant in
    let z : c.loop-i.i ≡ a.all = omega arith in
    done_end (restore a.s.now a.olds.now a.news.now a.first a.settings) a.t.now a.all (rw z at inv.0)
