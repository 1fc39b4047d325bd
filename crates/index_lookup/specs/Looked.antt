-- For the code alone: nothing here has to be believed.
-- What is written for an address, and what a lookup relies on.
use Rattle.std.specs.Prelude.{ℕ, ◌≤◌, ◌<◌, ◌≡◌, false, List, [], ◌∷◌, length}
use Rattle.stackmap.specs.Section.{num_records, is_old}
use Rattle.stackmap.specs.Walk.{Walkable}
use Rattle.index.specs.Index.{index_of}
use Rattle.index_lookup.specs.declared.Looked.{Looked}

-- number and place, record, function and sharing
unfoldable pub five : Looked → List ℕ
five r = r.number ∷ 0 ∷ r.index ∷ r.function ∷ r.sharing ∷ []

-- a section of version 3 that can be walked, with its index and how many records it has
pub record Indexed (s index : List ℕ) (n : ℕ) : Type 0 where
  pub walkable : Walkable s
  pub short : length s ≤ 16777216
  pub new : is_old s ≡ false
  pub many : n ≡ num_records s
  pub small : n < 4294967296
  pub right : index ≡ index_of s
