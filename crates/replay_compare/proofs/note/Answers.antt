use Rattle.replay.specs.Trace.{step_at}
use Rattle.replay_compare.proofs.note.Goals as goal

pub returns : goal.returns
unfolding step_at
returns c = rw (c.first.ensures, c.judge.ensures, c.recorded_at.ensures)
