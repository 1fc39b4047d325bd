use Prim.Native.Nat.{◌+◌, ◌*◌, ◌-◌, ◌<◌}
use mathlib.Core.Path.{◌≡◌}
use native.Mathlib.Omega.{arith}
use Rattle.stackmap.specs.Layout.{function_size}
use Rattle.stackmap.specs.Section.{is_old}
use Rattle.stackmap.proofs.Steps.{mul_step, function-least}
use Rattle.report_totals.proofs.Functions.{sum_start, sum_passes, sum_turn, sum_end, sum_stop}
use Rattle.report_totals.proofs.stack_sizes.Goals as goal

pub is_old-requires : goal.is_old-requires
is_old-requires c = let h = c.requires in omega arith

pub u32_at-functions-requires : goal.u32_at-functions-requires
u32_at-functions-requires c = let h = c.requires in omega arith

pub loop-i-init : goal.loop-i-init
loop-i-init c =
    let p : 16 + function_size (is_old c.args.s.now) * 0 ≡ 16 = omega arith in
    let all : c.u32_at-functions.result - 0 ≡ c.u32_at-functions.result = omega arith in
    rw (p, all) (sum_start _ c.requires c.u32_at-functions.ensures)

pub overflow_mul-p : goal.overflow_mul-p
overflow_mul-p c =
    rw (c.function_size-step.ensures.0, c.is_old.ensures) (omega (arith, c.loop-i.invariant.inside))

pub overflow_add-p : goal.overflow_add-p
overflow_add-p c =
    rw (c.function_size-step.ensures.0, c.is_old.ensures) (omega (arith, c.loop-i.invariant.inside))

pub overflow_add-p-in-loop-i : goal.overflow_add-p-in-loop-i
overflow_add-p-in-loop-i c =
    let l = c.loop-i in
    let s = c.args.s.now in
    let d = mul_step (function_size (is_old s)) (c.u32_at-functions.result - l.i) (omega arith) in
    let z = function-least (is_old s) in
    rw (c.function_size-step.ensures.0, c.is_old.ensures) (omega (arith, l.invariant.inside))

pub u64_at-size-requires : goal.u64_at-size-requires
u64_at-size-requires c =
    let l = c.loop-i in
    let s = c.args.s.now in
    let d = mul_step (function_size (is_old s)) (c.u32_at-functions.result - l.i) (omega arith) in
    let z = function-least (is_old s) in
    rw (c.function_size-step.ensures.0, c.is_old.ensures) (omega (arith, l.invariant.inside))

pub returns-in_err-known : goal.returns-in_err-known
returns-in_err-known c =
    let l = c.loop-i in
    let e = rw (c.function_size-step.ensures.0, c.is_old.ensures) at c.u64_at-size.ensures in
    let over : l.known + c.known_size.result < 18446744073709551616 → ⊥ = c.in_err-known.ensures in
    rw c.from_residual.ensures (sum_stop _ (sum_passes _ l.invariant (omega arith) e c.known_size.ensures (omega (arith, over))))

pub overflow_add-unknown : goal.overflow_add-unknown
overflow_add-unknown c =
    let l = c.loop-i in
    omega (arith, l.invariant.unknown-few, l.invariant.few, c.unknown_size-unknown.ensures.1, c.u32_at-functions.ensures)

pub loop-i-preserved : goal.loop-i-preserved
loop-i-preserved c =
    let l = c.loop-i in
    let u = c.unknown_size-unknown.ensures in
    let k = c.in_ok-known.ensures in
    rw k.1 (sum_turn _ l.i l.invariant c.loop-i-test.true (rw (c.function_size-step.ensures.0, c.is_old.ensures) at c.u64_at-size.ensures) c.known_size.ensures u.0 u.1 (omega (arith, k.0)))

pub returns : goal.returns
returns c = sum_end _ c.loop-i.invariant (omega arith)
