use mathlib.Core.Path.{refl}
use Rattle.thread.specs.Thread.{frame_at}
use Rattle.thread_search.proofs.list.frame_at.Goals as goal

pub returns : goal.returns
unfolding frame_at
returns c = refl
