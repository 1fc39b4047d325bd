use Rattle.replay.specs.Trace.{frame_at}
use Rattle.replay_trace.proofs.steps.frame_at.Goals as goal

pub returns : goal.returns
unfolding frame_at
returns c = rw (c.u64_at.ensures, c.u64_at-2.ensures, c.machine_of.ensures, c.from.ensures)
