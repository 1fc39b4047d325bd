use mathlib.Core.Path.{refl, sym, ◌∙◌}
use Rattle.flat_read.specs.Read.{location_answer}
use Rattle.flat_read.specs.declared.Array.TheVariants.{Locations}
use Rattle.flat_read.proofs.Asked.{asked-there, asked-missed}
use Rattle.flat_read.proofs.location.Goals as goal

pub returns-in-Ok : goal.returns-in-Ok
unfolding location_answer
returns-in-Ok c = let p = c.in-Ok.ensures in (rw p.place at c.location_at.ensures) ∙ asked-there _ _ _ _ _ _ 0 (sym p.accepted) refl p.there

pub returns-in-Err : goal.returns-in-Err
unfolding location_answer
returns-in-Err c = c.no_location.ensures ∙ asked-missed Locations _ _ _ _ _ c.in-Err.ensures
