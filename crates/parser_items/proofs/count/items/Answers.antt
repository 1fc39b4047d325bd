use native.Mathlib.Omega.{arith}
use Rattle.listing.proofs.Items.{yes_item, no_room, other-kind}
use Rattle.parser_items.proofs.Counts.{ran, run-ended, run-next}
use Rattle.parser_items.proofs.count.items.Goals as goal

pub loop-at-preserved : goal.loop-at-preserved
loop-at-preserved c =
    let a = c.args in
    let l = c.loop-at in (
      omega arith,
      omega arith,
      run-next l.n a.kind a.size a.l.now l.at l.invariant.2 (omega arith) (yes_item a.kind a.size a.l.now l.at (omega arith) c.if-l-at.true),
    )

pub returns-else-l-at : goal.returns-else-l-at
returns-else-l-at c =
    let a = c.args in
    let l = c.loop-at in
    ran c.requires.0 (run-ended l.n a.kind a.size a.l.now l.at l.invariant.2 (other-kind _ _ a.l.now l.at c.if-l-at.false))

pub returns-after-loop-at : goal.returns-after-loop-at
returns-after-loop-at c =
    let a = c.args in
    let l = c.loop-at in
    ran c.requires.0 (run-ended l.n a.kind a.size a.l.now l.at l.invariant.2 (no_room a.kind a.size a.l.now l.at (omega arith)))
