use Rattle.replay_frames.proofs.Gathering.{gathered}
use Rattle.replay_frames.proofs.addresses.gather.Goals as goal

pub returns : goal.returns
returns c = gathered _ _ _ _ _ c.copy.ensures c.sort.ensures.0 c.sort.ensures.1
