use native.Mathlib.Omega.{arith}
use native.Mathlib.Nat.{sub-zero}
use Rattle.lister_records.proofs.Passes.{measure_start, measure_here, measure_on, measure_fits, measure_end}
use Rattle.lister_records.proofs.records_length.Goals as goal

pub loop-init : goal.loop-init
loop-init c = rw sub-zero (measure_start _ _ _ _ c.requires)

pub record_shape-shape-requires : goal.record_shape-shape-requires
record_shape-shape-requires c = measure_here c.loop.invariant (omega arith)

pub overflow_mul-total : goal.overflow_mul-total
overflow_mul-total c = let f = measure_fits c.loop.invariant (omega arith) c.record_shape-shape.ensures in omega arith

pub overflow_add-total : goal.overflow_add-total
overflow_add-total c = let f = measure_fits c.loop.invariant (omega arith) c.record_shape-shape.ensures in omega arith

pub overflow_mul-total-in-loop : goal.overflow_mul-total-in-loop
overflow_mul-total-in-loop c = let f = measure_fits c.loop.invariant (omega arith) c.record_shape-shape.ensures in omega arith

pub overflow_add-total-in-loop : goal.overflow_add-total-in-loop
overflow_add-total-in-loop c = let f = measure_fits c.loop.invariant (omega arith) c.record_shape-shape.ensures in omega arith

pub overflow_add-total-in-loop-2 : goal.overflow_add-total-in-loop-2
overflow_add-total-in-loop-2 c = let f = measure_fits c.loop.invariant (omega arith) c.record_shape-shape.ensures in omega arith

pub overflow_add-p : goal.overflow_add-p
overflow_add-p c = let f = measure_fits c.loop.invariant (omega arith) c.record_shape-shape.ensures in omega arith

pub loop-preserved : goal.loop-preserved
loop-preserved c = measure_on c.loop.invariant (omega arith) (omega arith) c.record_shape-shape.ensures

pub returns : goal.returns
returns c = measure_end c.loop.invariant (omega arith)
