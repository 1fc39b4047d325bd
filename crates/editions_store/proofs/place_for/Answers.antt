use native.Mathlib.Omega.{arith}
use mathlib.Core.Path.{sym, ◌∙◌}
use borrow.Author.Tests.{le-ltb}
use Rattle.editions.specs.Calls.{number_most}
use Rattle.editions.specs.Store.{make_in}
use Rattle.editions_store.proofs.Places.{place-for}
use Rattle.editions_store.proofs.place_for.Goals as goal

pub returns-then-not-settings_right : goal.returns-then-not-settings_right
unfolding make_in
returns-then-not-settings_right c = rw (← c.settings_right.ensures, c.if-not-settings_right.true)

pub returns-then-store-ge-NUMBER_MOST : goal.returns-then-store-ge-NUMBER_MOST
unfolding make_in
returns-then-store-ge-NUMBER_MOST c =
    rw (← c.settings_right.ensures, c.if-not-settings_right.false, le-ltb c.args.store.now.greatest number_most (omega arith))

pub returns : goal.returns
returns c = rw c.ok_or.ensures.value (place-for _ _ _ (sym c.settings_right.ensures ∙ c.if-not-settings_right.false) (omega arith) c.free_place.ensures)
