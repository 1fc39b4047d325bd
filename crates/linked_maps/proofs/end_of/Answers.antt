use native.Mathlib.Omega.{arith}
use Rattle.linked_maps.specs.Walk.{end_at}
use Rattle.linked_maps.proofs.Putting.{kept-end}
use Rattle.linked_maps.proofs.end_of.Goals as goal

pub returns-then-i-ends : goal.returns-then-i-ends
returns-then-i-ends c = kept-end _ _ _ _ c.requires.1 c.requires.2 (omega arith)

pub returns-in-Ok : goal.returns-in-Ok
unfolding end_at
returns-in-Ok c = rw (← c.look.ensures, c.in-Ok.is)

pub returns-in-Err : goal.returns-in-Err
unfolding end_at
returns-in-Err c = rw (← c.look.ensures, c.in-Err.is)
