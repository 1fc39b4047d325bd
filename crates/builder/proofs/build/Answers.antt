use lib.ListN.{length-drop}
use Rattle.std.proofs.lemmas.Result.{err_from_is_err_and}
use Rattle.wire.specs.Word.{Bytes}
use Rattle.parser.proofs.Outcomes.{start-inside, part-is}
use Rattle.builder.proofs.Converted.{read_as, converted-refused, converted-short, converted}
use borrow.Author.Rules.{rules}
use native.Mathlib.Omega.{arith}
use Rattle.builder.proofs.build.Goals as goal

pub returns-in_err-plan : goal.returns-in_err-plan
returns-in_err-plan c =
    let a = c.args in
    let w : Bytes a.listing.now = record { below = λ i. omega (arith, c.type_inv.listing i) } in
    let x = err_from_is_err_and c.from_residual.result c.from_residual.ensures.1 in
    rw (x.1, x.2) (converted-refused a.listing.now w a.out.now c.in_err-plan.ensures)

pub returns-then-out-size : goal.returns-then-out-size
returns-then-out-size c =
    let a = c.args in
    let w : Bytes a.listing.now = record { below = λ i. omega (arith, c.type_inv.listing i) } in
    converted-short a.listing.now w a.out.now c.in_ok-plan.ensures (omega arith)

pub slice_bounds-section-count : goal.slice_bounds-section-count
slice_bounds-section-count c =
    let k = c.in_ok-plan.ensures in
    start-inside c.args.listing.now k.version c.version_length-start.ensures.0

pub slice_bounds-section-start : goal.slice_bounds-section-start
slice_bounds-section-start c =
    let k = c.in_ok-plan.ensures in
    let h = start-inside c.args.listing.now k.version c.version_length-start.ensures.0 in
    search rules

pub section-requires : goal.section-requires
section-requires c =
    let k = c.in_ok-plan.ensures in
    let s = k.sized in
    let n = k.short in
    let e = part-is c.args.listing.now k.version c.version_length-start.ensures.0 in
    (rw e k.planned, rw e k.ready, rw (e, length-drop) (omega arith), omega arith)

pub returns : goal.returns
returns c =
    let a = c.args in
    let w : Bytes a.listing.now = record { below = λ i. omega (arith, c.type_inv.listing i) } in
    let k = c.in_ok-plan.ensures in
    rw (
      converted a.listing.now w a.out.now k (omega arith),
      c.section.ensures,
      part-is a.listing.now k.version c.version_length-start.ensures.0,
      read_as a.listing.now w a.out.now k,
    )
