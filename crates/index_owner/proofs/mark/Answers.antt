use Prim.Native.Nat.{ℕ, ◌+◌, ◌*◌}
use Rattle.std.specs.Prelude.{min}
use mathlib.Core.Path.{◌≡◌, refl, sym, ap, ◌∙◌}
use native.Mathlib.Omega.{arith}
use lib.ListN.{length-set}
use Rattle.index_owner.specs.Owner.{before}
use Rattle.index_owner.proofs.Laws.{before-none, before-most, marked_one}
use Rattle.index_owner.proofs.mark.Goals as goal

pub loop-i-init : goal.loop-i-init
loop-i-init c =
    let z : min c.u32_at-functions.result 0 ≡ 0 = omega arith in
    (record { most = omega arith; inside = λ j h. absurd (omega arith); each = λ j h. absurd (omega arith) }, refl, rw z (sym (before-none c.args.s.now)))

pub overflow_cast-marks : goal.overflow_cast-marks
overflow_cast-marks c =
    let h = before-most c.args.s.now c.requires.0 c.requires.1 (min c.u32_at-functions.result (86 * c.loop-i.i)) in
    let i = c.loop-i.invariant.2 in
    let n = c.requires.2 in
    omega arith

pub overflow_add-base : goal.overflow_add-base
overflow_add-base c =
    let h = before-most c.args.s.now c.requires.0 c.requires.1 c.min.result in
    let e = c.counts_of-base.ensures in
    let i = c.loop-i.invariant.2 in
    let n = c.requires.2 in
    let z : min c.u32_at-functions.result (86 * c.loop-i.i) ≡ 86 * c.loop-i.i = let u = c.div_ceil-count.ensures in omega arith in
    let b : c.loop-i.base ≡ before c.args.s.now (86 * c.loop-i.i) = i ∙ ap (λ (x : ℕ). before c.args.s.now x) z in
    omega arith

pub loop-i-preserved : goal.loop-i-preserved
loop-i-preserved c =
    let l = c.loop-i in
    let i = l.invariant in
    let k = i.1 in
    let d = c.div_ceil-count.ensures in
    let u = c.u32_at-functions.ensures in
    let z : min c.u32_at-functions.result (86 * l.i) ≡ 86 * l.i = omega arith in
    let b : l.base ≡ before c.args.s.now (86 * l.i) = i.2 ∙ ap (λ (x : ℕ). before c.args.s.now x) z in
    let e : c.min.result ≡ min c.u32_at-functions.result (86 * (l.i + 1)) = omega arith in
    let o = c.counts_of-base.ensures in
    (marked_one c.args.s.now l.marks l.i l.base i.0 (omega arith) (omega arith) b, length-set l.marks l.i l.base ∙ k, rw (← e) (omega arith))
