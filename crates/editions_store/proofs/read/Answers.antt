use Rattle.editions.specs.Store.{read_in}
use mathlib.Core.Path.{sym, ◌∙◌}
use Rattle.editions_store.proofs.Places.{look-is}
use Rattle.editions_store.proofs.read.Goals as goal

pub returns-in-Some : goal.returns-in-Some
unfolding read_in
returns-in-Some c = let l = look-is _ _ _ (sym c.in-Some.is ∙ c.place_of.ensures) in rw (l.1 (record { number = 0; settings = record { most = 0; machine = 0; version1 = 0; version3 = 0 } }))

pub returns-in-None : goal.returns-in-None
unfolding read_in
returns-in-None c = let l = look-is _ _ _ (sym c.in-None.is ∙ c.place_of.ensures) in rw (l, c.nothing.ensures)
