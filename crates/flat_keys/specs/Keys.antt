-- For the code alone: nothing here has to be believed.
-- The records' instruction offsets in order, so that a frame's first match is found by halving: a key is an offset and the record's number
-- after it.
use Rattle.std.specs.Prelude.{ℕ, ◌+◌, ◌*◌, ◌<◌, ◌≡◌, List, get_or}
use Rattle.wire.specs.Word.{word}
use Rattle.flat.specs.Layout.{record_size, instruction_offset_at}
use Rattle.flat.specs.Places.{records_at}
use Rattle.sorted.specs.Sorted.{Sorted, EntryOf}

-- how many records the 16-bit index and count of a frame can reach, and one more
abbrev pub keys_most : ℕ
keys_most = 131072

abbrev pub offset_of : List ℕ → ℕ → ℕ
offset_of s j = word 4 s (records_at s + record_size * j + instruction_offset_at)

abbrev pub key_of : List ℕ → ℕ → ℕ
key_of s j = offset_of s j * keys_most + j

-- the keys of the first m records, in record order
pub record Filled (s keys : List ℕ) (m : ℕ) : Type 0 where
  pub each : (j : ℕ) → j < m → get_or keys j 0 ≡ key_of s j
  pub small : (j : ℕ) → j < m → offset_of s j < 4294967296

-- the keys of the first m records, in order
pub record Keyed (s keys : List ℕ) (m : ℕ) : Type 0 where
  pub sorted : Sorted keys m
  pub each : (j : ℕ) → j < m → EntryOf keys m (key_of s j)
  pub small : (j : ℕ) → j < m → offset_of s j < 4294967296
