use native.Mathlib.Omega.{arith}
use Rattle.relocate.specs.Statepoint.{deopt_count}
use Rattle.relocate.proofs.Records.{count-locations, header_there, offset-said}
use Rattle.relocate.proofs.Pairing.{statepoint_tells, paired}
use Rattle.relocate_pairs.proofs.statepoint.pairs_of.Goals as goal

pub shape_at-shape-requires : goal.shape_at-shape-requires
shape_at-shape-requires c = let h = c.requires.0 in (header_there _ _ h, h.inside)

pub location-d-requires : goal.location-d-requires
location-d-requires c =
    let t = statepoint_tells _ c.requires.1 in
    (c.requires.0, omega (arith, count-locations c.args.s.now c.args.at, t.head))

pub overflow_sub-result : goal.overflow_sub-result
unfolding deopt_count
overflow_sub-result c =
    let t = statepoint_tells _ c.requires.1 in
    omega (arith, t.room, offset-said _ _ _ c.location-d.ensures, c.shape_at-shape.ensures.locations_are)

pub returns : goal.returns
unfolding deopt_count
returns c =
    let a = c.args in
    let o = offset-said _ _ _ c.location-d.ensures in
    paired a.s.now a.at _ _ c.requires.0 c.requires.1 (omega (arith, o)) (rw (← count-locations a.s.now a.at, ← c.shape_at-shape.ensures.locations_are))
