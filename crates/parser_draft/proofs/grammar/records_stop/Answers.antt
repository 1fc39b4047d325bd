use native.Mathlib.Omega.{arith}
use mathlib.Core.Path.{sym, ◌∙◌}
use lib.ListN.{length}
use Rattle.listing.specs.Layout.{record_kind, record_item_size}
use Rattle.listing.proofs.Items.{yes_item, no_room, other-kind, records_no}
use Rattle.parser_items.proofs.Records.{stops-here}
use Rattle.parser_draft.proofs.grammar.records_stop.Goals as goal

pub loop-at-preserved : goal.loop-at-preserved
loop-at-preserved c =
    let p = c.loop-at in
    let s = c.record_shape-at.ensures in
    (s.inside, p.invariant.1 ∙ stops-here s (yes_item _ _ c.args.l.now p.at (omega arith) c.if-l-at-eq-RECORD_KIND.true))

pub returns-else-l-at-eq-RECORD_KIND : goal.returns-else-l-at-eq-RECORD_KIND
returns-else-l-at-eq-RECORD_KIND c =
    let l = c.args.l.now in
    let p = c.loop-at in
    (sym (p.invariant.1 ∙ (records_no l (length l) p.at (other-kind record_kind record_item_size l p.at c.if-l-at-eq-RECORD_KIND.false)).1), p.invariant.0)

pub returns-after-loop-at : goal.returns-after-loop-at
returns-after-loop-at c =
    let l = c.args.l.now in
    let p = c.loop-at in
    (sym (p.invariant.1 ∙ (records_no l (length l) p.at (no_room record_kind record_item_size l p.at (omega arith))).1), p.invariant.0)
