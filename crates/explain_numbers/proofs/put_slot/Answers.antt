use native.Mathlib.Omega.{arith}
use Rattle.explain_numbers.proofs.Laws.{part-sets}
use Rattle.explain_numbers.proofs.put_slot.Goals as goal

pub returns : goal.returns
returns c = part-sets _ _ _ _ _ c.copy_from_slice.ensures.after (omega arith) (omega arith)
