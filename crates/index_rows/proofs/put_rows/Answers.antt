use mathlib.Core.Path.{refl, sym, ◌∙◌}
use native.Mathlib.Omega.{arith}
use native.Mathlib.Nat.{sub-zero}
use lib.ListN.{length-set, length-drop}
use Rattle.stackmap.proofs.OneWalk.{fold_start, fold_end}
use Rattle.index_rows.specs.Filled.{filled}
use Rattle.index_rows.proofs.Walk.{tabled, next-head, next-whole, next_address, fill_on, part-whole, part-size}
use Rattle.index_rows.proofs.Rows.{none_filled, fill_written, fill_stepped}
use Rattle.index_rows.proofs.put_rows.Goals as goal
use Rattle.index_rows.proofs.put_rows.Goals.{then-rises, else-rises}

pub u32_at-count-requires : goal.u32_at-count-requires
u32_at-count-requires c = let t = tabled _ c.requires.0 in let i = t.inside in omega arith

pub first_record-p-requires : goal.first_record-p-requires
first_record-p-requires c = (c.requires.1, (tabled _ c.requires.0).inside)

pub start-turn-requires : goal.start-turn-requires
start-turn-requires c = (sym c.requires.1, (tabled _ c.requires.0).walkable)

pub loop-number-init : goal.loop-number-init
loop-number-init c =
    let t = tabled _ c.requires.0 in
    let p = c.first_record-p.ensures in
    let n = c.u32_at-count.ensures in
    (fold_start filled (none_filled c.args.index.now) t.walkable c.start-turn.ensures p (rw p t.inside) (rw sub-zero n), refl, n)

pub owner-t-requires : goal.owner-t-requires
owner-t-requires c =
    let w = c.loop-number.invariant.0.walking in
    let n = w.counted in
    ((tabled _ c.requires.0).walkable.inside, w.turning, omega arith)

pub address_at-address-requires : goal.address_at-address-requires
address_at-address-requires c =
    let f = c.loop-number.invariant.0.walking in
    let o = c.owner-t in
    let m = o.ensures.3 c.requires.1 in
    (c.requires.1, (tabled _ c.requires.0).walkable.inside, omega (arith, o.ensures.2), next-head _ c.requires.0 f _ _ o.ensures.0 o.ensures.1, next_address _ c.requires.0 f _ _ o.ensures.0 o.ensures.1 c.requires.1)

pub put_row-requires : goal.put_row-requires
put_row-requires c =
    let l = c.loop-number.invariant in
    omega (arith, l.1, l.2, c.requires.2)

pub record_shape-p-requires : goal.record_shape-p-requires
record_shape-p-requires c =
    let o = c.owner-t in
    part-whole c.args.s.now c.loop-number.p c.requires.1 (next-whole _ c.requires.0 c.loop-number.invariant.0.walking _ _ o.ensures.0 o.ensures.1)

pub overflow_add-p : goal.overflow_add-p
overflow_add-p c =
    let l = c.loop-number in
    let o = c.owner-t in
    let w = next-whole _ c.requires.0 l.invariant.0.walking _ _ o.ensures.0 o.ensures.1 in
    let z = part-size c.args.s.now l.p c.requires.1 c.record_shape-p.ensures.ends in
    omega (arith, length-drop l.p c.args.s.now, l.invariant.0.walking.inside)

pub loop-number-preserved : goal.loop-number-preserved
loop-number-preserved c =
    let l = c.loop-number in
    let o = c.owner-t in
    let put = c.put_row.ensures in
    let size = part-size c.args.s.now l.p c.requires.1 c.record_shape-p.ensures.ends in
    let f = fill_on _ c.requires.0 l.invariant.0 _ _ o.ensures.0 o.ensures.1 o.ensures.2 o.ensures.3 (omega arith) (omega arith)
    c.address_at-address.ensures put
    (elim c.if-rises.branch [ then-rises w ↦ rw w.if-rises.true w.rises-is | else-rises w ↦ rw w.if-rises.false (w.rises-is ∙ w.if-rises.false) ]) size in
    (f, rw (put, length-set, length-set) l.invariant.1, l.invariant.2)

pub shape_of-index : goal.shape_of-index
shape_of-index c = c.loop-number.invariant.1

pub returns : goal.returns
returns c =
    let n = c.u32_at-count.ensures in
    let e = fold_end filled c.loop-number.invariant.0 (omega arith) in
    let w = (tabled _ c.requires.0).walkable in
    (fill_written _ _ w c.requires.2 e, fill_stepped _ _ w c.requires.2 e (omega arith))
