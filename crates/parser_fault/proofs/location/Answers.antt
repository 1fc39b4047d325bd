use Rattle.std.proofs.Common.{inl, inr}
use Rattle.stackmap.specs.Verdict.{must, pick}
use Rattle.stackmap.proofs.Tests.{tests}
use Rattle.parser_fault.proofs.Faults.{location_listed}
use Rattle.parser_fault.proofs.location.Goals as goal
use Rattle.parser_fault.proofs.location.Goals.{then-index-ge-NEGATIVE_FROM-via-then-index-ge-NEGATIVE_FROM, then-index-ge-NEGATIVE_FROM-via-else-index-ge-NEGATIVE_FROM+then-index-plan}

pub returns-then-kind-lt-KIND_LEAST : goal.returns-then-kind-lt-KIND_LEAST
unfolding must pick
returns-then-kind-lt-KIND_LEAST c =
    let a = c.args in
    rw (location_listed a.plan.old a.plan.constants a.l.now a.at a.place)
    (elim c.then-kind-lt-KIND_LEAST.either [ inl h ↦ search tests | inr h ↦ search tests ])

pub returns-then-kind-ne-KIND_CONST_INDEX : goal.returns-then-kind-ne-KIND_CONST_INDEX
unfolding must pick
returns-then-kind-ne-KIND_CONST_INDEX c = let a = c.args in rw (location_listed a.plan.old a.plan.constants a.l.now a.at a.place, ← c.location_size.ensures.0) (search tests)

pub returns-then-index-ge-NEGATIVE_FROM : goal.returns-then-index-ge-NEGATIVE_FROM
unfolding must pick
returns-then-index-ge-NEGATIVE_FROM c =
    let a = c.args in
    rw (location_listed a.plan.old a.plan.constants a.l.now a.at a.place, ← c.u32_at-index.ensures)
    (elim c.then-index-ge-NEGATIVE_FROM.branch [
      | then-index-ge-NEGATIVE_FROM-via-then-index-ge-NEGATIVE_FROM w ↦ search tests
      | then-index-ge-NEGATIVE_FROM-via-else-index-ge-NEGATIVE_FROM+then-index-plan w ↦ search tests
    ])

pub returns : goal.returns
unfolding must pick
returns c =
    let a = c.args in
    rw (
      location_listed a.plan.old a.plan.constants a.l.now a.at a.place,
      ← c.u32_at-index.ensures,
      ← c.location_size.ensures.0,
    )
    (search tests)
