use native.Mathlib.Omega.{arith}
use Rattle.relocate.proofs.Records.{count-locations, header_there}
use Rattle.relocate_pairs.proofs.statepoint.is_statepoint.Goals as goal

pub shape_at-shape-requires : goal.shape_at-shape-requires
shape_at-shape-requires c = let h = c.requires in (header_there _ _ h, h.inside)

pub constant_head-requires : goal.constant_head-requires
constant_head-requires c = (c.requires, let n = c.shape_at-shape.ensures.locations_are in omega (arith, count-locations c.args.s.now c.args.at))
