use Prim.Native.Nat.{◌+◌, ◌-◌, ◌≤◌}
use mathlib.Core.Path.{◌≡◌, ◌∙◌}
use native.Mathlib.Omega.{arith}
use lib.ListN.{length, drop, length-drop}
use Rattle.stackmap.proofs.Within.{part-from}
use Rattle.questions_find.specs.Scan.{scanned}
use Rattle.linked_find.proofs.Turns.{place_inside, front_least, ask-start, turn_refused, turn_last, sums_fit, turn_grows, turn_on}
use Rattle.linked_find.proofs.find.Goals as goal

pub loop-found-init : goal.loop-found-init
loop-found-init c = rw c.refused-found.ensures (ask-start _ _)

pub returns-then-front-ne0 : goal.returns-then-front-ne0
returns-then-front-ne0 c =
    let said : c.scan-front.result ≡ scanned (drop c.loop-found.at c.args.section.now) c.args.address = rw (part-from c.args.section.now c.loop-found.at) at c.scan-front.ensures.0 in
    let a = c.args in
    c.refused.ensures ∙ turn_refused a.section.now a.address c.loop-found.invariant c.scan-front.result (said) c.if-front-ne0.true

pub returns-then-end-section : goal.returns-then-end-section
returns-then-end-section c =
    let said : c.scan-front.result ≡ scanned (drop c.loop-found.at c.args.section.now) c.args.address = rw (part-from c.args.section.now c.loop-found.at) at c.scan-front.ensures.0 in
    let a = c.args in
    let l = c.loop-found in
    let q : l.at + c.scan-front.result.place ≡ length a.section.now = omega arith in
    c.add-next.ensures.0
    ∙ rw (c.is_old-old.ensures, part-from a.section.now l.at) (turn_last a.section.now a.address l.invariant c.scan-front.result (said) c.if-front-ne0.false q)

pub loop-found-preserved : goal.loop-found-preserved
loop-found-preserved c =
    let said : c.scan-front.result ≡ scanned (drop c.loop-found.at c.args.section.now) c.args.address = rw (part-from c.args.section.now c.loop-found.at) at c.scan-front.ensures.0 in
    let a = c.args in
    let l = c.loop-found in
    let g = c.add-next in
    let o = rw (c.is_old-old.ensures, part-from a.section.now l.at) at g.ensures.0 in
    turn_on a.section.now a.address l.invariant c.scan-front.result (said) c.if-front-ne0.false c.if-end-section.false g.result o g.ensures.1 c.scan-front.ensures.1.few

pub slice_bounds-scan-count : goal.slice_bounds-scan-count
slice_bounds-scan-count c = let i = c.loop-found.invariant.inside in omega arith

pub slice_bounds-scan-start : goal.slice_bounds-scan-start
slice_bounds-scan-start c = let i = c.loop-found.invariant.inside in omega arith

pub slice_bounds-scan-end : goal.slice_bounds-scan-end
slice_bounds-scan-end c = let i = c.loop-found.invariant.inside in omega arith

pub overflow_add-at : goal.overflow_add-at
overflow_add-at c =
    let said : c.scan-front.result ≡ scanned (drop c.loop-found.at c.args.section.now) c.args.address = rw (part-from c.args.section.now c.loop-found.at) at c.scan-front.ensures.0 in
    let inside : c.loop-found.at + c.scan-front.result.place ≤ length c.args.section.now = let a = c.args in
    let l = c.loop-found in
    let p = place_inside (drop l.at a.section.now) a.address c.scan-front.result (said) in
    let d = length-drop l.at a.section.now in
    let i : l.at ≤ length a.section.now = l.invariant.inside in
    omega arith in
    omega (arith, inside, c.well_formed)

pub slice_bounds-is_old-count : goal.slice_bounds-is_old-count
slice_bounds-is_old-count c = let i = c.loop-found.invariant.inside in omega arith

pub slice_bounds-is_old-start : goal.slice_bounds-is_old-start
slice_bounds-is_old-start c = let i = c.loop-found.invariant.inside in omega arith

pub slice_bounds-is_old-end : goal.slice_bounds-is_old-end
slice_bounds-is_old-end c = let i = c.loop-found.invariant.inside in omega arith

pub is_old-old-requires : goal.is_old-old-requires
is_old-old-requires c =
    let said : c.scan-front.result ≡ scanned (drop c.loop-found.at c.args.section.now) c.args.address = rw (part-from c.args.section.now c.loop-found.at) at c.scan-front.ensures.0 in
    let s = c.args.section.now in
    rw (part-from s c.loop-found.at) (front_least _ _ c.scan-front.result (said) c.if-front-ne0.false)

pub add-next-requires : goal.add-next-requires
add-next-requires c =
    let said : c.scan-front.result ≡ scanned (drop c.loop-found.at c.args.section.now) c.args.address = rw (part-from c.args.section.now c.loop-found.at) at c.scan-front.ensures.0 in
    let a = c.args in
    let l = c.loop-found in
    let h = rw (part-from a.section.now l.at) at c.scan-front.ensures.1 in
    let d = length-drop l.at a.section.now in
    let i : l.at ≤ length a.section.now = l.invariant.inside in
    (let n = h.inside in omega arith, sums_fit a.section.now a.address l.invariant c.scan-front.result (said) h.few)

pub overflow_add-end : goal.overflow_add-end
overflow_add-end c =
    let said : c.scan-front.result ≡ scanned (drop c.loop-found.at c.args.section.now) c.args.address = rw (part-from c.args.section.now c.loop-found.at) at c.scan-front.ensures.0 in
    let inside : c.loop-found.at + c.scan-front.result.place ≤ length c.args.section.now = let a = c.args in
    let l = c.loop-found in
    let p = place_inside (drop l.at a.section.now) a.address c.scan-front.result (said) in
    let d = length-drop l.at a.section.now in
    let i : l.at ≤ length a.section.now = l.invariant.inside in
    omega arith in
    omega (arith, inside, c.well_formed)

pub overflow_add-number : goal.overflow_add-number
overflow_add-number c =
    let said : c.scan-front.result ≡ scanned (drop c.loop-found.at c.args.section.now) c.args.address = rw (part-from c.args.section.now c.loop-found.at) at c.scan-front.ensures.0 in
    let inside : c.loop-found.at + c.scan-front.result.place ≤ length c.args.section.now = let a = c.args in
    let l = c.loop-found in
    let p = place_inside (drop l.at a.section.now) a.address c.scan-front.result (said) in
    let d = length-drop l.at a.section.now in
    let i : l.at ≤ length a.section.now = l.invariant.inside in
    omega arith in
    let a = c.args in
    let l = c.loop-found in
    let g = turn_grows a.section.now a.address l.invariant c.scan-front.result (said) c.if-front-ne0.false c.if-end-section.false in
    let m : l.number ≤ l.at = l.invariant.most in
    omega (arith, inside, c.well_formed)

pub loop-found-smaller : goal.loop-found-smaller
loop-found-smaller c =
    let said : c.scan-front.result ≡ scanned (drop c.loop-found.at c.args.section.now) c.args.address = rw (part-from c.args.section.now c.loop-found.at) at c.scan-front.ensures.0 in
    let inside : c.loop-found.at + c.scan-front.result.place ≤ length c.args.section.now = let a = c.args in
    let l = c.loop-found in
    let p = place_inside (drop l.at a.section.now) a.address c.scan-front.result (said) in
    let d = length-drop l.at a.section.now in
    let i : l.at ≤ length a.section.now = l.invariant.inside in
    omega arith in
    let a = c.args in
    let l = c.loop-found in
    let g = turn_grows a.section.now a.address l.invariant c.scan-front.result (said) c.if-front-ne0.false c.if-end-section.false in
    omega (arith, inside)
