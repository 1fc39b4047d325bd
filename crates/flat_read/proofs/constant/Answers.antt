use mathlib.Core.Path.{refl, sym, ◌∙◌}
use Rattle.flat_read.specs.Read.{constant_answer}
use Rattle.flat_read.specs.declared.Array.TheVariants.{Constants}
use Rattle.flat_read.proofs.Asked.{asked-there, asked-missed}
use Rattle.flat_read.proofs.constant.Goals as goal

pub returns-in-Ok : goal.returns-in-Ok
unfolding constant_answer
returns-in-Ok c = let p = c.in-Ok.ensures in (rw p.place at c.constant_at.ensures) ∙ asked-there _ _ _ _ _ _ 0 (sym p.accepted) refl p.there

pub returns-in-Err : goal.returns-in-Err
unfolding constant_answer
returns-in-Err c = c.no_constant.ensures ∙ asked-missed Constants _ _ _ _ _ c.in-Err.ensures
