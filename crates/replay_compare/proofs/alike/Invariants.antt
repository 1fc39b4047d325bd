use Rattle.replay.proofs.Replaying.{Alike}
use Rattle.replay_compare.proofs.alike.Given as goal

abbrev pub invariant-loop-k : goal.invariant-loop-k
invariant-loop-k l = Alike l.t l.n l.m l.i l.initial.known l.k l.known
