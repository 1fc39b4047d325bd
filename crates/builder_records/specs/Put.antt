-- For the code alone: nothing here has to be believed.
-- The head of a record, by the place of the listing that it is written from.
use Rattle.std.specs.Prelude.{ℕ, ◌+◌, List, [], ◌∷◌}
use Rattle.wire.specs.Word.{word}
use Rattle.stackmap.specs.Fields.{Field, ◌of◌}

-- ID, instruction offset, flags and the number of locations of the record item at `at`
abbrev pub head_fields : List ℕ → ℕ → ℕ → List Field
head_fields l at n = (8 of word 8 l (at + 1)) ∷ (4 of word 4 l (at + 9)) ∷ (2 of 0) ∷ (2 of n) ∷ []
