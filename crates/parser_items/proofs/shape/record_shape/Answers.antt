use mathlib.Core.Path.{refl}
use Rattle.parser_items.proofs.shape.record_shape.Goals as goal

pub returns : goal.returns
returns c =
    let i = c.items-locations.ensures in
    let j = c.items-outs.ensures in
    record { locations_are = i.is; live_outs_are = rw (← i.is) j.is; stops = refl; inside = j.inside }
