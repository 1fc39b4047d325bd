use Rattle.stackmap.specs.Verdict.{chain}
use Rattle.stackmap.proofs.Passed.{passed}
use Rattle.listing.specs.Listing.{old_right}
use Rattle.parser_draft.proofs.narrow.items.Goals as goal

pub returns-in_err-counts : goal.returns-in_err-counts
unfolding old_right chain
returns-in_err-counts c =
    let k = c.in_err-counts.ensures in
    rw (passed _ _ c.from_residual.ensures.1) (rw (c.if-plan.true, ← k.0), k.1)

pub returns-then-plan : goal.returns-then-plan
unfolding old_right chain
returns-then-plan c = (rw (c.if-plan.true, ← c.in_ok-counts.ensures.0) c.all_sizes.ensures.0, c.all_sizes.ensures.1)

pub returns : goal.returns
unfolding old_right
returns c = (rw c.if-plan.false, tt)
