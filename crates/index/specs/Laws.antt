-- What an index is, said without the insertion that defines it; and that with the right index a lookup gives what the plain walk gives.
use Rattle.std.specs.Prelude.{ℕ, ◌≡◌, true}
use mathlib.Core.List.{List, [], ◌∷◌, map, Memᴰ, Permᴰ}
use Rattle.wire.specs.Word.{Bytes}
use Rattle.stackmap.specs.Section.{entries}
use Rattle.questions.specs.Questions.{by_address}
use Rattle.index.specs.Rows.{Row, precedes, flat}
use Rattle.index.specs.Index.{row_of, index_of, by_index}

-- each row precedes every one after it, by address and then by record number
abbrev pub Ascending : List Row → Type 0
Ascending [] = Unit {0}
Ascending (x ∷ xs) = ((y : Row) → Memᴰ y xs → precedes x y ≡ true) × Ascending xs

-- these are the rows of the section's records, one for each and no other, and they ascend
pub record RowsInOrder (s : List ℕ) (rows : List Row) : Type 0 where
  pub one_a_record : Permᴰ (map row_of (entries s)) rows
  pub ascending : Ascending rows

-- The index is such a list, two entries a row, and there is no other.
pub record IndexOrdered : Type 0 where
  pub is_one : (s : List ℕ) → Bytes s → (rows : List Row) × RowsInOrder s rows × (index_of s ≡ flat rows)
  pub only_one : (s : List ℕ) → Bytes s → (rows : List Row) → RowsInOrder s rows → index_of s ≡ flat rows

-- With the right index a lookup gives what the plain walk gives.
abbrev pub IndexAnswers : Type 0
IndexAnswers = (s : List ℕ) (a : ℕ) → by_index s (index_of s) a ≡ by_address s a
