use mathlib.Core.Path.{refl, sym, ◌∙◌}
use Rattle.report_records.proofs.Single.{locations-there, statepoint-counts, other-counts}
use Rattle.report_records.proofs.record_counts.Goals as goal

pub kinds_of-kinds-requires : goal.kinds_of-kinds-requires
kinds_of-kinds-requires c =
    let q = c.requires in
    locations-there _ _ q.0 q.1 c.shape_at-shape.ensures.locations_are

pub pairs_of-pairs-requires : goal.pairs_of-pairs-requires
pairs_of-pairs-requires c = (c.requires.0, sym c.is_statepoint.ensures ∙ c.if-is_statepoint.true)

pub returns-then-is_statepoint : goal.returns-then-is_statepoint
returns-then-is_statepoint c =
    let q = c.requires in
    let k = c.kinds_of-kinds.ensures in
    statepoint-counts _ _ q.0 q.1 c.shape_at-shape.ensures.locations_are k.0 k.1 (sym c.is_statepoint.ensures ∙ c.if-is_statepoint.true) c.pairs_of-pairs.ensures refl

pub returns : goal.returns
returns c =
    let q = c.requires in
    let k = c.kinds_of-kinds.ensures in
    other-counts _ _ q.0 q.1 c.shape_at-shape.ensures.locations_are k.0 k.1 (sym c.is_statepoint.ensures ∙ c.if-is_statepoint.false) refl
