-- For the code alone: nothing here has to be believed.
-- A reason and a slot, as the code has them in numbers.
use Rattle.std.specs.Prelude.{ℕ, List, [], ◌∷◌}
use Rattle.moves.specs.Arrays.{slot_of}
use Rattle.explain.specs.Explain.{addressed}
use Rattle.explain.specs.Rows.{sort_of, place_of}
use Rattle.explain_numbers.specs.declared.Told.{Told}

-- a reason as the code holds it
abbrev pub numbers_of : Told → List ℕ
numbers_of t = t.reason ∷ t.pair ∷ t.old ∷ t.new ∷ []

-- the sort of the slot with number x, and its address or register number
unfoldable pub sort_at : ℕ → ℕ
sort_at x = sort_of (slot_of x)

unfoldable pub place_at : ℕ → ℕ → ℕ
place_at sp x = place_of (addressed sp (slot_of x))
