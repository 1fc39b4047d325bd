use borrow.Author.Rules.{rules}
use native.Mathlib.Omega.{arith}
use mathlib.Core.Path.{◌≡◌}
use mathlib.Core.Bool.{true}
use Rattle.listing.specs.Layout.{record_kind, record_item_size}
use Rattle.listing.specs.Listing.{stands}
use Rattle.listing.proofs.Items.{yes_item, no_room, other-kind}
use Rattle.parser_items.proofs.Records.{size-most, passed_start, passed_on, measured_start, measured_on, crowded}
use Rattle.parser_items.proofs.count.survey_records.Goals as goal

pub loop-stop-init : goal.loop-stop-init
loop-stop-init c = (passed_start c.requires.0, measured_start)

pub returns-then-shape-gt-ITEMS_MOST : goal.returns-then-shape-gt-ITEMS_MOST
returns-then-shape-gt-ITEMS_MOST c =
    let here : stands record_kind record_item_size c.args.l.now c.loop-stop.stop ≡ true = yes_item _ _ c.args.l.now c.loop-stop.stop (omega arith) c.if-l-stop-eq-RECORD_KIND.true in
    let s = c.record_shape-shape.ensures in
    (c.loop-stop.invariant.0, c.loop-stop.invariant.1, crowded s here c.then-shape-gt-ITEMS_MOST.either)

pub loop-stop-preserved : goal.loop-stop-preserved
loop-stop-preserved c =
    let here : stands record_kind record_item_size c.args.l.now c.loop-stop.stop ≡ true = yes_item _ _ c.args.l.now c.loop-stop.stop (omega arith) c.if-l-stop-eq-RECORD_KIND.true in
    let s = c.record_shape-shape.ensures in
    let i = c.loop-stop.invariant in
    (passed_on s here (omega arith) (omega arith) i.0, rw c.record_size-size.ensures (measured_on s here i.1))

pub overflow_add-size : goal.overflow_add-size
overflow_add-size c = let m = size-most c.args.old c.record_shape-shape.result.locations c.record_shape-shape.result.outs in search rules

pub returns-else-l-stop-eq-RECORD_KIND : goal.returns-else-l-stop-eq-RECORD_KIND
returns-else-l-stop-eq-RECORD_KIND c = (c.loop-stop.invariant.0, c.loop-stop.invariant.1, other-kind record_kind record_item_size c.args.l.now c.loop-stop.stop c.if-l-stop-eq-RECORD_KIND.false)

pub returns-after-loop-stop : goal.returns-after-loop-stop
returns-after-loop-stop c = (c.loop-stop.invariant.0, c.loop-stop.invariant.1, no_room record_kind record_item_size c.args.l.now c.loop-stop.stop (omega arith))
