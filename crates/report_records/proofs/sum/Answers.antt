use native.Mathlib.Omega.{arith}
use Rattle.report_records.specs.Counts.{grown}
use Rattle.report_records.proofs.sum.Goals as goal

pub kinds_sum-kinds-requires : goal.kinds_sum-kinds-requires
unfolding grown
kinds_sum-kinds-requires c = c.requires.kinds

pub overflow_add-result : goal.overflow_add-result
unfolding grown
overflow_add-result c = omega (arith, c.requires.records)

pub overflow_add-result-2 : goal.overflow_add-result-2
unfolding grown
overflow_add-result-2 c = omega (arith, c.requires.statepoints)

pub overflow_add-result-3 : goal.overflow_add-result-3
unfolding grown
overflow_add-result-3 c = omega (arith, c.requires.pairs)

pub returns : goal.returns
unfolding grown
returns c = rw c.kinds_sum-kinds.ensures
