use Prim.Native.Nat.{◌-◌, ◌≤◌}
use mathlib.Core.Path.{◌≡◌}
use lib.ListN.{length}
use Rattle.relocate.specs.Restore.{restore}
use Rattle.replay.specs.declared.Outcome.TheVariants.{Same}
use Rattle.replay.specs.Code.{Done, fault}
use Rattle.replay_frames.proofs.replay_all.Given as goal

abbrev pub invariant-loop-i : goal.invariant-loop-i
invariant-loop-i l = Done (restore l.s l.olds l.news l.first l.settings) l.t l.all 0 Same l.initial.image l.i l.known l.image × (l.i ≤ l.all) × (l.tested ≡ fault (restore l.s l.olds l.news l.first l.settings) (length l.initial.image))

abbrev pub decreases-loop-i : goal.decreases-loop-i
decreases-loop-i l = l.all - l.i
