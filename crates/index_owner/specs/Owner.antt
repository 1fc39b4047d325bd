-- For the code alone: nothing here has to be believed.
-- How many records the functions before one have, and marks at every 86th function.
use Rattle.std.specs.Prelude.{ℕ, zero, suc, ◌+◌, ◌*◌, ◌≤◌, ◌<◌, ◌≡◌, List, [], ◌∷◌, length, get_or}
use Rattle.stackmap.specs.Section.{Function, num_functions, read_functions}

-- the records of the first n of these functions
unfoldable pub records_of : ℕ → List Function → ℕ
records_of zero fs = 0
records_of (suc n) [] = 0
records_of (suc n) (f ∷ fs) = f.count + records_of n fs

abbrev pub before : List ℕ → ℕ → ℕ
before s f = records_of f (read_functions s)

-- the record number k is one of function number f
pub record Owns (s : List ℕ) (k f : ℕ) : Type 0 where
  pub there : f < num_functions s
  pub low : before s f ≤ k
  pub high : k < before s (f + 1)

-- the first `count` marks are set
pub record Marking (s marks : List ℕ) (count : ℕ) : Type 0 where
  pub most : count ≤ length marks
  pub inside : (j : ℕ) → j < count → 86 * j < num_functions s
  pub each : (j : ℕ) → j < count → get_or marks j 0 ≡ before s (86 * j)

-- and there is one if there are functions
pub record Marked (s marks : List ℕ) (count : ℕ) : Type 0 where
  pub marking : Marking s marks count
  pub some : 0 < num_functions s → 0 < count
