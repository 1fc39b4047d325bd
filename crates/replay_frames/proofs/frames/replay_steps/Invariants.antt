use Prim.Native.Nat.{◌≤◌}
use Rattle.relocate.specs.Restore.{restore}
use Rattle.replay.specs.Code.{Done}
use Rattle.replay_frames.proofs.frames.replay_steps.Given as goal

abbrev pub invariant-loop-k : goal.invariant-loop-k
invariant-loop-k l = Done (restore l.s l.olds l.news l.first l.settings) l.t l.all l.i l.initial.known l.initial.image l.k l.known l.image × (l.i ≤ l.k)
