use mathlib.Core.Path.{ap}
use lib.ListN.{length}
use Rattle.stackmap.specs.Verdict.{chain}
use Rattle.stackmap.proofs.Passed.{passed}
use Rattle.parser_items.proofs.Records.{records-here, some_record, record_inside_lem}
use Rattle.parser_draft.proofs.Limits.{sizes_here, sizes_none}
use native.Mathlib.Omega.{arith}
use Rattle.parser_draft.proofs.narrow.all_sizes.Goals as goal

pub record_shape-shape-requires : goal.record_shape-shape-requires
record_shape-shape-requires c =
    let n = c.loop.invariant.1 in
    record_inside_lem c.args.l.now c.loop.at (omega arith)

pub returns-in_err-sizes : goal.returns-in_err-sizes
unfolding chain
returns-in_err-sizes c =
    let p = c.loop in
    let n = p.invariant.1 in
    let s = c.in_err-sizes.ensures in
    let e = some_record c.args.l.now p.at (omega arith) in
    rw (passed _ _ c.from_residual.ensures.1) (rw (p.invariant.2, sizes_here c.record_shape-shape.ensures e, ← s.0), s.1)

pub loop-preserved : goal.loop-preserved
unfolding chain
loop-preserved c =
    let p = c.loop in
    let n = p.invariant.1 in
    let h = c.record_shape-shape.ensures in
    let e = some_record c.args.l.now p.at (omega arith) in
    let k = ap length (records-here h e) in
    (h.inside, omega arith, rw (p.invariant.2, sizes_here h e, ← c.in_ok-sizes.ensures.0))

pub returns : goal.returns
returns c =
    let p = c.loop in
    let n = p.invariant.1 in
    (rw p.invariant.2 (sizes_none _ _ (omega arith)), tt)
