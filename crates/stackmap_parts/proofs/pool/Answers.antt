use Rattle.std.proofs.Common.{inl, inr}
use Rattle.stackmap.specs.Record.{pool_check}
use Rattle.stackmap.specs.Verdict.{must, pick}
use Rattle.stackmap.proofs.Tests.{tests}
use Rattle.stackmap_parts.proofs.pool.Goals as goal

pub returns-then-kind-ne-KIND_CONST_INDEX : goal.returns-then-kind-ne-KIND_CONST_INDEX
unfolding pool_check must pick
returns-then-kind-ne-KIND_CONST_INDEX c = search tests

pub returns-then-index-ge-NEGATIVE_FROM : goal.returns-then-index-ge-NEGATIVE_FROM
unfolding pool_check must pick
returns-then-index-ge-NEGATIVE_FROM c = rw (← c.u32_at-index.ensures)
    (elim c.then-index-ge-NEGATIVE_FROM.either [ inl h ↦ search tests | inr h ↦ search tests ])

pub returns : goal.returns
unfolding pool_check must pick
returns c = rw (← c.u32_at-index.ensures) (search tests)
