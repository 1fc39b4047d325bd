use mathlib.Core.Path.{refl, sym, ◌∙◌}
use Rattle.flat_read.specs.Read.{live_out_answer}
use Rattle.flat_read.specs.declared.Array.TheVariants.{LiveOuts}
use Rattle.flat_read.proofs.Asked.{asked-there, asked-missed}
use Rattle.flat_read.proofs.live_out.Goals as goal

pub returns-in-Ok : goal.returns-in-Ok
unfolding live_out_answer
returns-in-Ok c = let p = c.in-Ok.ensures in (rw p.place at c.live_out_at.ensures) ∙ asked-there _ _ _ _ _ _ 0 (sym p.accepted) refl p.there

pub returns-in-Err : goal.returns-in-Err
unfolding live_out_answer
returns-in-Err c = c.no_live_out.ensures ∙ asked-missed LiveOuts _ _ _ _ _ c.in-Err.ensures
