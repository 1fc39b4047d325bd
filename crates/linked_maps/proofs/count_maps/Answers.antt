use mathlib.Core.Path.{refl, sym, ap, ◌∙◌}
use native.Mathlib.Omega.{arith}
use lib.ListN.{length-set}
use Rattle.stackmap.specs.Verdict.{verdict}
use Rattle.linked_maps.proofs.Counting.{other_cause, count-start, count_wrong, count-last, count_on}
use Rattle.linked_maps.proofs.count_maps.Goals as goal

pub loop-end-init : goal.loop-end-init
loop-end-init c = (count-start _ _, refl)

pub look-requires : goal.look-requires
look-requires c = c.loop-end.invariant.0.inside

pub overflow_add-result : goal.overflow_add-result
overflow_add-result c =
    let l = c.loop-end.invariant.0 in
    let i = l.inside in
    let f = l.fits in
    omega arith

pub shape_of-ends-in-Ok : goal.shape_of-ends-in-Ok
shape_of-ends-in-Ok c = rw (c.keep.ensures, length-set) c.loop-end.invariant.1

pub returns-in-Ok : goal.returns-in-Ok
returns-in-Ok c =
    let l = c.loop-end.invariant.0 in
    let v = sym c.look.ensures ∙ ap verdict c.in-Ok.is in
    let r = count-last _ _ _ _ l _ v in
    (r.0, rw c.keep.ensures r.1)

pub shape_of-ends-in_default : goal.shape_of-ends-in_default
shape_of-ends-in_default c = c.loop-end.invariant.1

pub returns-in_default : goal.returns-in_default
returns-in_default c =
    let l = c.loop-end.invariant.0 in
    let v = sym c.look.ensures ∙ ap verdict c.in-Err.is in
    (count_wrong _ _ _ _ l _ _ v (other_cause _ c.in_default.not-BytesAfter), tt)

pub overflow_add-count : goal.overflow_add-count
overflow_add-count c =
    let l = c.loop-end.invariant.0 in
    let i = l.inside in
    let f = l.fits in
    omega arith

pub loop-end-smaller : goal.loop-end-smaller
loop-end-smaller c =
    let l = c.loop-end.invariant in
    let v = sym c.look.ensures ∙ ap verdict c.in-Err.is in
    let o = count_on _ _ _ _ l.0 _ (rw c.in-BytesAfter.is at v) in
    let u = o.1 in
    let i = o.0.inside in
    omega arith

pub loop-end-preserved : goal.loop-end-preserved
loop-end-preserved c =
    let l = c.loop-end.invariant in
    let v = sym c.look.ensures ∙ ap verdict c.in-Err.is in
    let o = count_on _ _ _ _ l.0 _ (rw c.in-BytesAfter.is at v) in
    let k = c.keep-in-BytesAfter.ensures in
    (rw k o.0, rw (k, length-set) l.1)
