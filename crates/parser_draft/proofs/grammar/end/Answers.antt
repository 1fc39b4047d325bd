use borrow.Author.Tests.{eq-eqb, ne_eqb}
use Rattle.stackmap.specs.Verdict.{must}
use Rattle.listing.specs.Layout.{end_kind, end_item_size}
use Rattle.listing.proofs.Items.{yes_item, no_room, other-kind}
use Rattle.parser_items.specs.Grammar.{end_check}
use native.Mathlib.Omega.{arith}
use Rattle.parser_draft.proofs.grammar.end.Goals as goal
use Rattle.parser_draft.proofs.grammar.end.Goals.{then-l-stop-lt-END_ITEM_SIZE-via-then-l-stop-lt-END_ITEM_SIZE, then-l-stop-lt-END_ITEM_SIZE-via-else-l-stop-lt-END_ITEM_SIZE+then-l-stop-ne-END_KIND}

pub returns-then-l-stop-lt-END_ITEM_SIZE : goal.returns-then-l-stop-lt-END_ITEM_SIZE
unfolding end_check must
returns-then-l-stop-lt-END_ITEM_SIZE c =
    let a = c.args in
    elim c.then-l-stop-lt-END_ITEM_SIZE.branch [
      | then-l-stop-lt-END_ITEM_SIZE-via-then-l-stop-lt-END_ITEM_SIZE w ↦ (rw (no_room end_kind end_item_size a.l.now a.stop (omega arith)), omega arith)
      | then-l-stop-lt-END_ITEM_SIZE-via-else-l-stop-lt-END_ITEM_SIZE+then-l-stop-ne-END_KIND w ↦ (rw (other-kind end_kind end_item_size a.l.now a.stop w.if-l-stop-ne-END_KIND.true), omega arith)
    ]

pub returns-then-stop-l : goal.returns-then-stop-l
unfolding end_check must
returns-then-stop-l c =
    let a = c.args in
    (rw (yes_item end_kind end_item_size a.l.now a.stop (omega arith) c.if-l-stop-ne-END_KIND.false, ne_eqb _ _ c.if-stop-l.true), omega arith)

pub returns : goal.returns
unfolding end_check must
returns c =
    let a = c.args in
    (rw (yes_item end_kind end_item_size a.l.now a.stop (omega arith) c.if-l-stop-ne-END_KIND.false, eq-eqb _ _ c.if-stop-l.false), tt)
