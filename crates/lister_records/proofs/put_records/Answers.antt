use native.Mathlib.Omega.{arith}
use mathlib.Core.Path.{refl}
use native.Mathlib.Nat.{sub-zero}
use Rattle.lister_items.proofs.Puts.{put-long}
use Rattle.lister_records.proofs.Passes.{pass_start, pass_here, pass_on, pass_end}
use Rattle.lister_records.proofs.put_records.Goals as goal

pub loop-init : goal.loop-init
loop-init c = rw sub-zero (pass_start c.requires.0 c.requires.1)

pub put_record-passed-requires : goal.put_record-passed-requires
put_record-passed-requires c = pass_here c.loop.invariant (omega arith)

pub overflow_add-p : goal.overflow_add-p
overflow_add-p c =
    let m = pass_on c.loop.invariant (omega arith) refl c.put_record-passed.ensures.0 c.put_record-passed.ensures.1 in
    omega (arith, m.inside)

pub loop-preserved : goal.loop-preserved
loop-preserved c = pass_on c.loop.invariant (omega arith) (omega arith) c.put_record-passed.ensures.0 c.put_record-passed.ensures.1

pub returns : goal.returns
returns c = pass_end c.loop.invariant (omega arith)

pub shape_of-out : goal.shape_of-out
shape_of-out c = put-long (returns c)
