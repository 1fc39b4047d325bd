use mathlib.Core.Path.{refl}
use native.Mathlib.Omega.{arith}
use Rattle.flat_match.proofs.Lookup.{past, sum_is, look_on, look_hit, look-end}
use Rattle.flat_match.proofs.in_frame.Goals as goal

pub returns-in_err-rest : goal.returns-in_err-rest
returns-in_err-rest c =
    rw c.from_residual.ensures (past _ _ _ _ _ _ _ _ c.offset-frames.ensures.0 c.u64_at-function.ensures (omega (arith, c.in_err-rest.ensures)) refl)

pub returns-then-from-rest : goal.returns-then-from-rest
returns-then-from-rest c =
    look_hit _ _ _ _ _ _ c.loop-j.invariant (omega arith) ((sum_is _ _ _ _ _ _ _ _
    c.offset-frames.ensures.0 c.offset-records.ensures.0
    c.u64_at-function.ensures c.u32_at-offset.ensures (omega (arith, c.in_ok-rest.ensures))).0 (omega (arith, c.in_ok-rest.ensures)))

pub loop-j-preserved : goal.loop-j-preserved
loop-j-preserved c =
    look_on _ _ _ _ _ _ c.loop-j.invariant (omega arith) (λ e. c.if-from-rest.false (let x = (sum_is _ _ _ _ _ _ _ _
    c.offset-frames.ensures.0 c.offset-records.ensures.0
    c.u64_at-function.ensures c.u32_at-offset.ensures (omega (arith, c.in_ok-rest.ensures))).1 e in omega (arith, c.in_ok-rest.ensures)))

pub returns : goal.returns
returns c = look-end _ _ _ _ _ _ _ c.loop-j.invariant (omega arith) refl
