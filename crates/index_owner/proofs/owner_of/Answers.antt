use Prim.Native.Nat.{◌+◌}
use native.Mathlib.Omega.{arith}
use Rattle.index_owner.proofs.Laws.{before-none, not_last, room}
use Rattle.index_owner.proofs.owner_of.Goals as goal

pub mark_of-near-requires : goal.mark_of-near-requires
mark_of-near-requires c =
    let z = before-none c.args.s.now in
    (c.requires.2, c.requires.2.some (not_last c.args.s.now c.requires.0 c.requires.1 0 c.args.number (omega arith) (omega arith) c.requires.3))

pub overflow_mul-f : goal.overflow_mul-f
overflow_mul-f c =
    let i = c.requires.2.marking.inside c.mark_of-near.result c.mark_of-near.ensures.0 in
    let h = room c.args.s.now c.requires.0 c.requires.1 _ i in
    omega arith

pub offset_bounds-marks-near : goal.offset_bounds-marks-near
offset_bounds-marks-near c =
    let m = c.requires.2.marking.most in
    let r = c.mark_of-near.ensures.0 in
    omega arith

pub bounds-marks-near : goal.bounds-marks-near
bounds-marks-near c =
    let m = c.requires.2.marking.most in
    let r = c.mark_of-near.ensures.0 in
    omega arith

pub overflow_sub-left : goal.overflow_sub-left
overflow_sub-left c =
    let w = c.from.ensures in
    let e = c.requires.2.marking.each c.mark_of-near.result c.mark_of-near.ensures.0 in
    let b = c.mark_of-near.ensures.1 in
    omega arith

pub count_of-here-requires : goal.count_of-here-requires
count_of-here-requires c = (c.requires.0, c.requires.1, c.requires.2.marking.inside c.mark_of-near.result c.mark_of-near.ensures.0)

pub loop-here-init : goal.loop-here-init
loop-here-init c =
    let w = c.from.ensures in
    let e = c.requires.2.marking.each c.mark_of-near.result c.mark_of-near.ensures.0 in
    let b = c.mark_of-near.ensures.1 in
    (c.requires.2.marking.inside c.mark_of-near.result c.mark_of-near.ensures.0, omega arith, c.count_of-here.ensures)

pub overflow_add-f : goal.overflow_add-f
overflow_add-f c =
    let l = c.loop-here in
    let h = room c.args.s.now c.requires.0 c.requires.1 l.f l.invariant.0 in
    omega arith

pub count_of-here-requires-in-loop-here : goal.count_of-here-requires-in-loop-here
count_of-here-requires-in-loop-here c =
    let l = c.loop-here in
    let a = l.invariant.0 in
    let b = l.invariant.1 in
    let d = l.invariant.2 in
    (c.requires.0, c.requires.1, not_last c.args.s.now c.requires.0 c.requires.1 (l.f + 1) c.args.number (omega arith) (omega arith) c.requires.3)

pub loop-here-smaller : goal.loop-here-smaller
loop-here-smaller c = let a = c.loop-here.invariant.0 in omega arith

pub loop-here-preserved : goal.loop-here-preserved
loop-here-preserved c =
    let l = c.loop-here in
    let a = l.invariant.0 in
    let b = l.invariant.1 in
    let d = l.invariant.2 in
    (not_last c.args.s.now c.requires.0 c.requires.1 (l.f + 1) c.args.number (omega arith) (omega arith) c.requires.3, omega arith, c.count_of-here-in-loop-here.ensures)

pub returns : goal.returns
returns c =
    let l = c.loop-here in
    let b = l.invariant.1 in
    let d = l.invariant.2 in
    record { there = l.invariant.0; low = omega arith; high = omega arith }
