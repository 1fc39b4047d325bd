use mathlib.Core.Path.{refl}
use native.Mathlib.Omega.{arith}
use Rattle.replay.proofs.Replaying.{alike_step, alike_end}
use Rattle.replay_compare.proofs.alike.Goals as goal

pub loop-k-init : goal.loop-k-init
loop-k-init c = record { same = refl; most = c.requires.1 }

pub loop-k-preserved : goal.loop-k-preserved
loop-k-preserved c = alike_step _ _ _ c.loop-k.invariant (omega arith) c.note-known.ensures

pub returns : goal.returns
returns c = alike_end _ _ _ c.loop-k.invariant (omega arith)
