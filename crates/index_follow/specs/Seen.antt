-- For the code alone: nothing here has to be believed.
-- How a list is told to be a section's index in one walk over the records: each record's row is looked for in it.
use Rattle.std.specs.Prelude.{ℕ, ◌+◌, ◌*◌, ◌≤◌, ◌<◌, ◌≡◌, Bool, false, ◌&&◌, ◌||◌, List, [], ◌∷◌, eqb, length}
use Rattle.sorted_pairs.specs.Pairs.{Rising}
use Rattle.stackmap.specs.Section.{Entry, num_records, entries}
use Rattle.stackmap.proofs.OneWalk.{fold}
use Rattle.index.specs.Rows.{Row}
use Rattle.index.specs.Numbered.{rows_of}
use Rattle.index.specs.Index.{row_of}

-- the row is one of these
unfoldable pub is_in : Row → List Row → Bool
is_in x [] = false
is_in x (y ∷ ys) = (eqb y.address x.address && eqb y.number x.number) || is_in x ys

-- this record's row is there, and so were those before
unfoldable pub seen : List Row → Entry → Bool → Bool
seen rows e b = b && is_in (row_of e) rows

-- over all records of a section
abbrev pub all_seen : List ℕ → List ℕ → Bool → Bool
all_seen s xs b = fold (seen (rows_of (num_records s) xs)) (entries s) b

-- n pairs in order, and nothing else
pub record Usable (xs : List ℕ) (n : ℕ) : Type 0 where
  pub long : length xs ≡ 2 * n
  pub rising : Rising xs n

-- where the next pair is looked for: past n if the list is known to be wrong
pub record Following (xs : List ℕ) (n place : ℕ) : Type 0 where
  pub most : place ≤ n + 1
  pub usable : place ≤ n → Usable xs n

-- the walk begins with a place past n only where the list is wrong already
pub record Began (xs : List ℕ) (n place : ℕ) : Type 0 where
  pub unusable : n < place → Usable xs n → ⊥
