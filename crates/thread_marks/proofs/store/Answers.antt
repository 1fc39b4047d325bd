use native.Mathlib.Omega.{arith}
use Rattle.thread_marks.proofs.Marks.{stored}
use Rattle.thread_marks.proofs.store.Goals as goal

pub returns : goal.returns
returns c = stored c.args.hits.now c.args.i c.args.h _ (omega arith) (omega arith) _ c.copy_from_slice.ensures.after
