use Rattle.replay.specs.Trace.{recorded_at}
use Rattle.replay_trace.proofs.steps.recorded_at.Goals as goal

pub returns : goal.returns
unfolding recorded_at
returns c = rw c.u64_at.ensures
