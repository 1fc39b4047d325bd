use mathlib.Core.Path.{◌≡◌}
use lib.ListN.{length}
use Rattle.replay_frames.proofs.Gathering.{Copied}
use Rattle.replay_frames.proofs.addresses.copy.Given as goal

abbrev pub invariant-loop-k : goal.invariant-loop-k
invariant-loop-k l = Copied l.t l.i l.keys l.k × (length l.keys ≡ length l.initial.keys)
