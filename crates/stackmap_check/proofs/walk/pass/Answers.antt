use Rattle.std.proofs.Common.{◌≡◌, ◌-◌, refl, arith}
use native.Mathlib.Numerals.{add-one}
use Rattle.stackmap.proofs.Steps.{fewer}
use Rattle.stackmap.proofs.Turns.{walk_on}
use Rattle.stackmap_check.specs.Pass.{Not, none, more, Passing}
use Rattle.stackmap_check.proofs.walk.pass.Goals as goal

pub loop-passed-init : goal.loop-passed-init
loop-passed-init c =
    let all : c.args.count - 0 ≡ c.args.count = omega arith in
    (rw all none, rw all c.requires.2)

pub owner-t-requires : goal.owner-t-requires
owner-t-requires c =
    let w = c.loop-passed.invariant.1 in
    let n = w.counted in
    (c.requires.1, w.turning, omega arith)

pub owner_address-start-requires : goal.owner_address-start-requires
owner_address-start-requires c = (c.requires.0, c.requires.1, λ v. let m = c.owner-t.ensures.3 v in let k = c.owner-t.ensures.2 in omega arith)

pub past-end-requires : goal.past-end-requires
past-end-requires c = c.loop-passed.invariant.1.inside

pub returns-then-end-eq0 : goal.returns-then-end-eq0
returns-then-end-eq0 c =
    let l = c.loop-passed in
    let o = c.owner-t.ensures in
    record {
      many = l.passed;
      before_next = l.turn.next;
      before_left = l.turn.left;
      passed = l.invariant.0;
      counted = omega arith;
      same = o.0;
      owned = λ h. record { some = o.1; begun = o.2; most = o.3 };
    }

pub loop-passed-preserved : goal.loop-passed-preserved
loop-passed-preserved c =
    let l = c.loop-passed in
    let o = c.owner-t in
    let g = c.past-end.ensures (omega arith) in
    let a = c.owner_address-start.ensures in
    let v : Passing c.args.s.now c.args.constants (Not c.args.wanted) o.result.next l.p c.past-end.result = record { right = rw (← a, ← c.requires.0) g.0; apart = rw (← a) g.1 } in (
      rw (← fewer, add-one) (more o.result.next o.result.left c.past-end.result l.invariant.0 o.ensures.0 (record { some = o.ensures.1; begun = o.ensures.2; most = o.ensures.3 }) (omega arith) v),
      rw (← fewer) (walk_on o.result.next o.result.left l.invariant.1 o.ensures.0 o.ensures.1 o.ensures.2 o.ensures.3 v.right),
    )

pub returns : goal.returns
returns c =
    let l = c.loop-passed in
    let left : c.args.count - l.passed ≡ 0 = omega arith in
    record {
      many = l.passed;
      before_next = l.turn.next;
      before_left = l.turn.left;
      passed = rw left at l.invariant.0;
      counted = omega arith;
      same = refl;
      owned = λ h. absurd (omega arith);
    }
