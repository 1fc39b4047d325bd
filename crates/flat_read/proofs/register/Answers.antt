use mathlib.Core.Path.{refl, sym, ◌∙◌}
use Rattle.flat_read.specs.Read.{register_answer}
use Rattle.flat_read.specs.declared.Array.TheVariants.{Registers}
use Rattle.flat_read.proofs.Asked.{asked-there, asked-missed}
use Rattle.flat_read.proofs.register.Goals as goal

pub returns-in-Ok : goal.returns-in-Ok
unfolding register_answer
returns-in-Ok c = let p = c.in-Ok.ensures in (rw p.place at c.register_at.ensures) ∙ asked-there _ _ _ _ _ _ 0 (sym p.accepted) refl p.there

pub returns-in-Err : goal.returns-in-Err
unfolding register_answer
returns-in-Err c = c.no_register.ensures ∙ asked-missed Registers _ _ _ _ _ c.in-Err.ensures
