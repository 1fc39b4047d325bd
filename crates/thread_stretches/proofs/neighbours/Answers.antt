use native.Mathlib.Omega.{arith}
use Rattle.thread_stretches.proofs.Laws.{clear-start}
use Rattle.thread_stretches.proofs.neighbours.Goals as goal

pub loop-next-init : goal.loop-next-init
loop-next-init c = clear-start _ _ _ (omega arith)
