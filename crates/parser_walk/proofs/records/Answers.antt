use native.Mathlib.Omega.{arith}
use native.Mathlib.Nat.{sub-zero}
use Prim.Native.Nat.{◌+◌, ◌-◌}
use mathlib.Core.Path.{◌≡◌, sym}
use Rattle.stackmap.specs.Verdict.{chain}
use Rattle.stackmap.proofs.Passed.{passed}
use Rattle.parser_items.proofs.Records.{record_inside_lem}
use Rattle.parser_walk.proofs.Walking.{walk_start, walk_room, walk_here, walk_on, walk_end}
use Rattle.parser_walk.proofs.records.Goals as goal

pub loop-init : goal.loop-init
loop-init c = rw sub-zero (walk_start c.requires.0 c.start-turn.ensures)

pub owner-turn-requires : goal.owner-turn-requires
owner-turn-requires c =
    let w = c.loop.invariant in
    let o = w.owned in
    (c.requires.0.functions_inside, w.turning, omega arith)

pub record_shape-shape-requires : goal.record_shape-shape-requires
record_shape-shape-requires c =
    let z = c.loop.invariant.listed in
    record_inside_lem c.args.l.now c.loop.at (omega arith)

pub entry-requires : goal.entry-requires
entry-requires c =
    let o = c.owner-turn.ensures in
    let n = o.2 in
    let m = o.3 in
    let f = c.requires.0.functions_inside in
    let s = c.requires.0.small in
    let r = walk_room c.loop.invariant (omega arith) c.record_shape-shape.ensures in
    (c.record_shape-shape.ensures, λ e. let k = m e in omega arith, c.requires.1, omega arith)

pub returns-in_err-to : goal.returns-in_err-to
unfolding chain
returns-in_err-to c =
    let o = c.owner-turn in
    rw (
      walk_here c.loop.invariant (omega arith) c.record_shape-shape.ensures o.result.next o.result.left o.ensures.0 o.ensures.1,
      ← c.in_err-to.ensures,
      passed _ _ c.from_residual.ensures.1,
    )

pub loop-preserved : goal.loop-preserved
loop-preserved c =
    let o = c.owner-turn in
    let fewer : c.args.plan.records - (c.loop.counter + 1) ≡ c.args.plan.records - c.loop.counter - 1 = omega arith in
    rw fewer
    (walk_on c.loop.invariant (omega arith) c.record_shape-shape.ensures o.result.next o.result.left o.ensures.0 o.ensures.1
    o.ensures.2 o.ensures.3 (sym c.in_ok-to.ensures))

pub returns : goal.returns
returns c = sym (walk_end c.loop.invariant (omega arith))
