use mathlib.Core.Path.{◌≡◌}
use Rattle.editions_store.specs.Places.{clear_up_to}
use Rattle.editions_store.proofs.freed.Given as goal

abbrev pub invariant-loop-place : goal.invariant-loop-place
invariant-loop-place l = l.place-items ≡ clear_up_to l.number l.place-index l.initial.place-items
