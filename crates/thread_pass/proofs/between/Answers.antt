use Prim.Native.Nat.{◌-◌}
use mathlib.Core.Path.{◌≡◌, refl}
use native.Mathlib.Numerals.{add-one}
use Rattle.stackmap.proofs.Steps.{fewer}
use native.Mathlib.Omega.{arith}
use Rattle.stackmap.proofs.Turns.{walk_on}
use Rattle.stackmap.proofs.Within.{here-inside}
use Rattle.stackmap_check.specs.Pass.{none, more, Passing}
use Rattle.thread_pass.specs.Inside.{Inside}
use Rattle.thread_pass.proofs.between.Goals as goal

pub loop-passed-init : goal.loop-passed-init
loop-passed-init c =
    let all : c.args.count - 0 ≡ c.args.count = omega arith in
    (rw all none, rw all c.requires.2)

pub owner-t-requires : goal.owner-t-requires
owner-t-requires c =
    let w = c.loop-passed.invariant.1 in
    let n = w.counted in
    (c.requires.1, w.turning, omega arith)

pub owner_address-start-requires : goal.owner_address-start-requires
owner_address-start-requires c = (c.requires.0, c.requires.1, λ v. let m = c.owner-t.ensures.3 v in let k = c.owner-t.ensures.2 in omega arith)

pub quick_end-end-requires : goal.quick_end-end-requires
quick_end-end-requires c = c.loop-passed.invariant.1.inside

pub returns-then-end-eq0 : goal.returns-then-end-eq0
returns-then-end-eq0 c =
    let l = c.loop-passed in
    let o = c.owner-t.ensures in (
      record {
        many = l.passed;
        before_next = l.turn.next;
        before_left = l.turn.left;
        passed = l.invariant.0;
        counted = omega arith;
        same = o.0;
        owned = λ h. record { some = o.1; begun = o.2; most = o.3 };
      },
      λ h. absurd (omega arith),
    )

pub is_inside-requires : goal.is_inside-requires
is_inside-requires c = here-inside _ _ _ _ _ _ c.loop-passed.invariant.1.inside (c.quick_end-end.ensures (omega arith))

pub returns-then-not-is_inside : goal.returns-then-not-is_inside
returns-then-not-is_inside c =
    let l = c.loop-passed in
    let o = c.owner-t.ensures in
    let a = c.owner_address-start.ensures in (
      record {
        many = l.passed;
        before_next = l.turn.next;
        before_left = l.turn.left;
        passed = l.invariant.0;
        counted = omega arith;
        same = o.0;
        owned = λ h. record { some = o.1; begun = o.2; most = o.3 };
      },
      λ h. rw (← a, ← c.requires.0) (c.quick_end-end.ensures h),
    )

pub loop-passed-preserved : goal.loop-passed-preserved
loop-passed-preserved c =
    let l = c.loop-passed in
    let o = c.owner-t in
    let e = c.quick_end-end in
    let g = e.ensures (omega arith) in
    let i = c.is_inside.ensures (c.if-not-is_inside.false) in
    let a = c.owner_address-start.ensures in
    let v : Passing c.args.s.now c.args.constants (Inside c.args.below c.args.above) o.result.next l.p e.result = record { right = rw (← a, ← c.requires.0) g; apart = rw (← a) i } in (
      rw (← fewer, add-one) (more o.result.next o.result.left e.result l.invariant.0 o.ensures.0 (record { some = o.ensures.1; begun = o.ensures.2; most = o.ensures.3 }) (omega arith) v),
      rw (← fewer) (walk_on o.result.next o.result.left l.invariant.1 o.ensures.0 o.ensures.1 o.ensures.2 o.ensures.3 v.right),
    )

pub returns : goal.returns
returns c =
    let l = c.loop-passed in
    let left : c.args.count - l.passed ≡ 0 = omega arith in (
      record {
        many = l.passed;
        before_next = l.turn.next;
        before_left = l.turn.left;
        passed = rw left at l.invariant.0;
        counted = omega arith;
        same = refl;
        owned = λ h. absurd (omega arith);
      },
      λ h. absurd (omega arith),
    )
