use Rattle.editions.specs.Store.{retire_in}
use Rattle.editions_store.proofs.Places.{look-missing, look-there}
use Rattle.editions_store.proofs.retire.Goals as goal

pub returns-then-is_none : goal.returns-then-is_none
unfolding retire_in
returns-then-is_none c = rw (look-missing _ _ _ c.place_of.ensures c.if-is_none.ensures)

pub returns : goal.returns
unfolding retire_in
returns c = let (s, l) = look-there _ _ _ c.place_of.ensures c.if-is_none.ensures in rw (l, c.freed.ensures)
