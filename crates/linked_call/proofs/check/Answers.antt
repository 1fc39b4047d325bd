use native.Mathlib.Omega.{arith}
use Rattle.thread_call.proofs.Whole.{blank_holds, blank_counted}
use Rattle.linked_call.proofs.check.Goals as goal

pub find_all-requires : goal.find_all-requires
find_all-requires c = (omega arith, record { order = λ i j l k. absurd (omega arith) }, blank_holds _ _ 16384, blank_counted 16384)

pub returns : goal.returns
returns c = c.find_all.ensures.0
