-- For the code alone: nothing here has to be believed.
-- Rows read back from a list of entries, and rows that stand in section order.
use Rattle.std.specs.Prelude.{ℕ, zero, suc, ◌≤◌, ◌<◌, List, [], ◌∷◌, get_or, drop}
use Rattle.index.specs.Rows.{Row}

-- the first n rows of a list of entries
unfoldable pub rows_of : ℕ → List ℕ → List Row
rows_of zero xs = []
rows_of (suc n) xs = record { address = get_or xs 0 0; number = get_or xs 1 0 } ∷ rows_of n (drop 2 xs)

-- rows of records in section order: their numbers rise, from k on
abbrev pub Numbered : ℕ → List Row → Type 0
Numbered k [] = Unit {0}
Numbered k (x ∷ xs) = (k ≤ x.number) × (x.number < 18446744073709551616) × Numbered (suc x.number) xs
