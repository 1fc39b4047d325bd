use Prim.Native.Nat.{◌+◌}
use mathlib.Core.Path.{◌≡◌, refl}
use native.Mathlib.Omega.{arith}
use Rattle.relocate.specs.Restore.{restore}
use Rattle.replay.proofs.Replaying.{done_join}
use Rattle.replay_frames.proofs.frames.replay_steps.Goals as goal

pub loop-k-init : goal.loop-k-init
loop-k-init c = (record { outcome = refl; image = refl; long = refl }, omega arith)

pub replay_step-known-requires : goal.replay_step-known-requires
replay_step-known-requires c =
    let inv = c.loop-k.invariant in
    (rw inv.0.long c.requires, inv.1, c.loop-k-test.true)

pub loop-k-preserved : goal.loop-k-preserved
loop-k-preserved c =
    let a = c.args in
    let inv = c.loop-k.invariant in
    (done_join (restore a.s.now a.olds.now a.news.now a.first a.settings) a.t.now a.all inv.0 c.replay_step-known.ensures, omega arith)

pub shape_of-image : goal.shape_of-image
shape_of-image c = c.loop-k.invariant.0.long

pub returns : goal.returns
returns c =
    let z : c.loop-k.k ≡ c.args.i + c.args.n = omega arith in
    rw z at c.loop-k.invariant.0
