use Prim.Native.Nat.{◌-◌}
use mathlib.Core.Path.{◌≡◌, sym}
use native.Mathlib.Omega.{arith}
use Rattle.stackmap.proofs.Forth.{accepted-length}
use Rattle.stackmap.proofs.Steps.{fewer}
use Rattle.index_rows.proofs.Walk.{tabled, next-head, next_address}
use Rattle.controller_profile.proofs.Looking.{look-start, look_on, look_hit, look-end, next-stands}
use Rattle.controller_profile.proofs.first_breach.Goals as goal

pub u32_at-count-requires : goal.u32_at-count-requires
u32_at-count-requires c = let t = tabled _ c.requires.0 in let i = t.inside in omega arith

pub first_record-p-requires : goal.first_record-p-requires
first_record-p-requires c = (c.requires.1, (tabled _ c.requires.0).inside)

pub start-turn-requires : goal.start-turn-requires
start-turn-requires c = (sym c.requires.1, (tabled _ c.requires.0).walkable)

pub loop-number-init : goal.loop-number-init
loop-number-init c =
    let all : c.u32_at-count.result - 0 ≡ c.u32_at-count.result = omega arith in
    rw all (look-start (tabled _ c.requires.0) c.start-turn.ensures c.first_record-p.ensures c.u32_at-count.ensures)

pub owner-t-requires : goal.owner-t-requires
owner-t-requires c =
    let w = c.loop-number.invariant.folding.walking in
    let n = w.counted in
    ((tabled _ c.requires.0).walkable.inside, w.turning, omega arith)

pub address_at-address-requires : goal.address_at-address-requires
address_at-address-requires c =
    let w = c.loop-number.invariant.folding.walking in
    let o = c.owner-t in
    let m = o.ensures.3 c.requires.1 in
    (c.requires.1, (tabled _ c.requires.0).walkable.inside, omega (arith, o.ensures.2), next-head _ c.requires.0 w _ _ o.ensures.0 o.ensures.1, next_address _ c.requires.0 w _ _ o.ensures.0 o.ensures.1 c.requires.1)

pub keeps-requires : goal.keeps-requires
keeps-requires c =
    let o = c.owner-t in
    next-stands _ c.requires.0 c.loop-number.invariant.folding.walking _ _ o.ensures.0 o.ensures.1

pub shape_at-shape-requires : goal.shape_at-shape-requires
shape_at-shape-requires c =
    let o = c.owner-t in
    let r = next-stands _ c.requires.0 c.loop-number.invariant.folding.walking _ _ o.ensures.0 o.ensures.1 in
    let t = r.tables in
    (omega arith, r.inside)

pub overflow_add-p : goal.overflow_add-p
overflow_add-p c =
    let o = c.owner-t in
    let r = next-stands _ c.requires.0 c.loop-number.invariant.folding.walking _ _ o.ensures.0 o.ensures.1 in
    omega (arith, r.inside, c.shape_at-shape.ensures.ends, (accepted-length _ _ c.requires.0).1)

pub returns-else-keeps : goal.returns-else-keeps
returns-else-keeps c =
    let o = c.owner-t.ensures in
    let a = c.address_at-address.ensures in
    look_hit _ c.requires.0 c.loop-number.invariant _ _ o.0 o.1 o.2 o.3 (omega arith) _ a _ c.keeps.ensures c.if-keeps.false

pub loop-number-preserved : goal.loop-number-preserved
loop-number-preserved c =
    let o = c.owner-t.ensures in
    let a = c.address_at-address.ensures in
    let k = c.keeps.ensures in
    let z = c.shape_at-shape.ensures.ends in
    rw (← fewer) (look_on _ c.requires.0 c.loop-number.invariant _ _ o.0 o.1 o.2 o.3 (omega arith) _ a _ k c.if-keeps.true z)

pub returns : goal.returns
returns c = look-end _ c.requires.0 c.loop-number.invariant (omega arith)
