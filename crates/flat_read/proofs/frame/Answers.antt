use mathlib.Core.Path.{refl, sym, ◌∙◌}
use Rattle.flat_read.specs.Read.{frame_answer}
use Rattle.flat_read.specs.declared.Array.TheVariants.{Frames}
use Rattle.flat_read.proofs.Asked.{asked-there, asked-missed}
use Rattle.flat_read.proofs.frame.Goals as goal

pub returns-in-Ok : goal.returns-in-Ok
unfolding frame_answer
returns-in-Ok c = let p = c.in-Ok.ensures in (rw p.place at c.frame_at.ensures) ∙ asked-there _ _ _ _ _ _ 0 (sym p.accepted) refl p.there

pub returns-in-Err : goal.returns-in-Err
unfolding frame_answer
returns-in-Err c = c.no_frame.ensures ∙ asked-missed Frames _ _ _ _ _ c.in-Err.ensures
