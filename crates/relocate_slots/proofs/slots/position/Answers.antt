use Prim.Native.Nat.{◌^◌}
use mathlib.Core.Path.{refl, ap, ◌∙◌}
use mathlib.Core.Logic.{inl, inr}
use native.Mathlib.Omega.{arith}
use Rattle.moves.specs.Arrays.{as_option}
use Rattle.relocate_slots.proofs.Places.{position_below, position_far, position_there}
use Rattle.relocate_slots.proofs.slots.position.Goals as goal

pub returns-in_err-p : goal.returns-in_err-p
returns-in_err-p c =
    let a = c.args in
    ap as_option c.from_residual.ensures
    ∙ position_below a.register a.sp a.offset a.slots a.size 0 (inl (c.if-offset-lt-NEGATIVE_FROM.true, refl))
    (omega (arith, c.from-up.ensures, c.in_err-p.ensures))

pub returns-then-register-sp : goal.returns-then-register-sp
returns-then-register-sp c =
    let a = c.args in
    c.place.ensures ∙ position_there a.register a.sp a.offset a.slots a.size 0 _ (inl (c.if-offset-lt-NEGATIVE_FROM.true, refl))
    (omega (arith, c.from-up.ensures, c.in_ok-p.ensures))

pub returns-then-gap-size : goal.returns-then-gap-size
returns-then-gap-size c =
    let a = c.args in
    position_far a.register a.sp a.offset a.slots a.size 0 (inl (c.if-offset-lt-NEGATIVE_FROM.true, refl)) (omega arith)

pub returns-then-offset-lt-NEGATIVE_FROM : goal.returns-then-offset-lt-NEGATIVE_FROM
returns-then-offset-lt-NEGATIVE_FROM c =
    let a = c.args in
    c.place-then-offset-lt-NEGATIVE_FROM.ensures ∙ position_there a.register a.sp a.offset a.slots a.size 0 _ (inl (c.if-offset-lt-NEGATIVE_FROM.true, refl))
    (omega (arith, c.from-up.ensures))

pub returns-in_err-gap : goal.returns-in_err-gap
returns-in_err-gap c =
    let a = c.args in
    ap as_option c.from_residual-in_err-gap.ensures
    ∙ position_below a.register a.sp a.offset a.slots a.size (2 ^ 32) (inr (c.if-offset-lt-NEGATIVE_FROM.false, omega (arith, c.ranges.offset), refl))
    (omega (arith, c.ranges.offset, c.in_err-gap.ensures))

pub returns-in_err-p-2 : goal.returns-in_err-p-2
returns-in_err-p-2 c =
    let a = c.args in
    ap as_option c.from_residual-in_err-p-2.ensures
    ∙ position_below a.register a.sp a.offset a.slots a.size (2 ^ 32) (inr (c.if-offset-lt-NEGATIVE_FROM.false, omega (arith, c.ranges.offset), refl))
    (omega (arith, c.ranges.offset, c.from-down.ensures, c.in_ok-gap.ensures, c.in_err-p-2.ensures))

pub returns : goal.returns
returns c =
    let a = c.args in
    c.place-2.ensures ∙ position_there a.register a.sp a.offset a.slots a.size (2 ^ 32) _
    (inr (c.if-offset-lt-NEGATIVE_FROM.false, omega (arith, c.ranges.offset), refl))
    (omega (arith, c.ranges.offset, c.from-down.ensures, c.in_ok-gap.ensures, c.in_ok-p-2.ensures))
