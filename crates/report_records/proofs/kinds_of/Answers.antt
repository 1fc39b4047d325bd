use Prim.Native.Nat.{◌+◌, ◌*◌, ◌-◌}
use mathlib.Core.Path.{◌≡◌}
use native.Mathlib.Omega.{arith}
use Rattle.stackmap.specs.Layout.{location_size}
use Rattle.stackmap.proofs.Steps.{mul_step, times_most, location_least}
use Rattle.report.proofs.Plus.{kinds-below}
use Rattle.report_records.proofs.Kindred.{count-start, count_turn, count-end}
use Rattle.report_records.proofs.kinds_of.Goals as goal

pub loop-i-init : goal.loop-i-init
loop-i-init c =
    let p : 16 + location_size c.args.old * 0 ≡ 16 = omega arith in
    let all : c.args.count - 0 ≡ c.args.count = omega arith in
    rw (p, all) (count-start _ _ _ c.requires)

pub overflow_mul-p : goal.overflow_mul-p
overflow_mul-p c = rw c.location_size-step.ensures.0 (omega (arith, c.loop-i.invariant.inside))

pub overflow_add-p : goal.overflow_add-p
overflow_add-p c = rw c.location_size-step.ensures.0 (omega (arith, c.loop-i.invariant.inside))

pub bounds-s-p : goal.bounds-s-p
bounds-s-p c =
    let l = c.loop-i in
    let k = mul_step (location_size c.args.old) (c.args.count - l.i) (omega arith) in
    let z = location_least c.args.old in
    rw c.location_size-step.ensures.0 (omega (arith, l.invariant.inside))

pub with_kind-kinds-requires : goal.with_kind-kinds-requires
with_kind-kinds-requires c =
    let l = c.loop-i in
    let a = c.args in
    let m = times_most 8 (location_size a.old) a.count (location_least a.old) in
    kinds-below _ _ _ (omega (arith, c.requires)) l.invariant.most

pub loop-i-preserved : goal.loop-i-preserved
loop-i-preserved c =
    let l = c.loop-i in
    count_turn _ _ _ _ _ _ l.invariant (omega arith) (rw c.location_size-step.ensures.0 at c.with_kind-kinds.ensures)

pub returns : goal.returns
returns c = count-end _ _ _ _ _ _ c.loop-i.invariant (omega arith)
