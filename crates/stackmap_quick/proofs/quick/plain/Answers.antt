use Prim.Native.Nat.{◌+◌}
use mathlib.Core.Path.{◌≡◌}
use mathlib.Core.Bool.{true, false}
use native.Mathlib.Omega.{arith}
use Rattle.wire.specs.Word.{word}
use Rattle.stackmap_quick.proofs.Looks.{rights_none, closed_none, begin, finish}
use Rattle.stackmap_quick.proofs.quick.plain.Goals as goal

pub returns-then-s-at-lt24 : goal.returns-then-s-at-lt24
returns-then-s-at-lt24 c = (λ k h. absurd (omega arith), λ k h. absurd (omega arith))

pub returns-then-count-eq0 : goal.returns-then-count-eq0
returns-then-count-eq0 c =
    let a = c.args in
    let g = c.head_right.ensures c.if-head_right.true in
    let n = c.u16_at-count.ensures in
    let e : 0 ≡ word 2 a.s.now (a.at + 14) = omega arith in (
      λ k h. begin a.old a.s.now k 0 a.address a.at 0 (omega arith) (omega arith) e g.0 g.1 (rights_none _ _ _ _),
      λ k h.
          finish a.old a.s.now k a.address a.at 0 _ e
          (begin a.old a.s.now k 0 a.address a.at 0 (omega arith) (omega arith) e g.0 g.1 (rights_none _ _ _ _))
          (closed_none a.old a.s.now a.at _ (c.no_live_outs.ensures h)),
    )

pub returns-then-old : goal.returns-then-old
returns-then-old c =
    let a = c.args in
    let g = c.head_right.ensures c.if-head_right.true in
    let n = c.u16_at-count.ensures in
    let v = c.of_version_1.ensures in
    rw c.if-old.true (
      λ k h. begin true a.s.now k 0 a.address a.at c.u16_at-count.result (omega arith) (omega arith) n g.0 g.1 (v.0 h),
      λ k h.
          finish true a.s.now k a.address a.at c.u16_at-count.result _ n
          (begin true a.s.now k 0 a.address a.at c.u16_at-count.result (omega arith) (omega arith) n g.0 g.1 (v.0 (omega arith))) (v.1 h),
    )

pub returns-then-head_right : goal.returns-then-head_right
returns-then-head_right c =
    let a = c.args in
    let g = c.head_right.ensures c.if-head_right.true in
    let n = c.u16_at-count.ensures in
    let v = c.of_version_3.ensures in
    rw c.if-old.false (
      λ k h. begin false a.s.now k 0 a.address a.at c.u16_at-count.result (omega arith) (omega arith) n g.0 g.1 (v.0 h),
      λ k h.
          finish false a.s.now k a.address a.at c.u16_at-count.result _ n
          (begin false a.s.now k 0 a.address a.at c.u16_at-count.result (omega arith) (omega arith) n g.0 g.1 (v.0 (omega arith))) (v.1 h),
    )

pub returns : goal.returns
returns c = (λ k h. absurd (omega arith), λ k h. absurd (omega arith))
