-- Where the arrays of a flat section begin, how many items each has, refusal 38, and folds over the items.
use Rattle.std.specs.Prelude.{ℕ, zero, suc, ◌+◌, ◌*◌, ◌-◌, ◌/◌, max, Bool, true, ◌&&◌, eqb, leb, ltb, List, length, get_or}
use Rattle.wire.specs.Word.{word}
use Rattle.flat.specs.Layout.{header_size, constants_offset_at, frames_offset_at, registers_offset_at, records_offset_at, locations_offset_at}
use Rattle.flat.specs.Layout.{live_outs_offset_at, constant_size, constant_align, frame_size, frame_align, register_count_at, register_index_at}
use Rattle.flat.specs.Layout.{record_count_at, record_index_at, register_size, register_align, record_size, record_align, location_count_at}
use Rattle.flat.specs.Layout.{location_index_at, live_out_count_at, live_out_index_at, location_size, location_align, live_out_size, live_out_align}
use Rattle.flat.specs.Layout.{align}

-- a test holds of n numbers from i on
unfoldable pub every : (ℕ → Bool) → ℕ → ℕ → Bool
every p i zero = true
every p i (suc n) = p i && every p (suc i) n

-- the greatest of n values from i on; 0 of none
unfoldable pub greatest : (ℕ → ℕ) → ℕ → ℕ → ℕ
greatest f i zero = 0
greatest f i (suc n) = max (f i) (greatest f (suc i) n)

-- an index plus a count, each at its place: the end of a range in another array
abbrev pub range_end : List ℕ → ℕ → ℕ → ℕ
range_end s index count = word 2 s index + word 2 s count

-- where the range of the frame i in the frame registers ends; the frames begin at `at`
abbrev pub registers_used : List ℕ → ℕ → ℕ → ℕ
registers_used s at i = range_end s (at + frame_size * i + register_index_at) (at + frame_size * i + register_count_at)

module _ (s : List ℕ) where
  -- The offsets, as the header states them.

  abbrev pub constants_at : ℕ
  constants_at = word 4 s constants_offset_at

  abbrev pub frames_at : ℕ
  frames_at = word 4 s frames_offset_at

  abbrev pub registers_at : ℕ
  registers_at = word 4 s registers_offset_at

  abbrev pub records_at : ℕ
  records_at = word 4 s records_offset_at

  abbrev pub locations_at : ℕ
  locations_at = word 4 s locations_offset_at

  abbrev pub live_outs_at : ℕ
  live_outs_at = word 4 s live_outs_offset_at

  -- How many there are: as many as fit between two offsets.

  unfoldable pub num_constants : ℕ
  num_constants = (frames_at - constants_at) / constant_size

  unfoldable pub num_frames : ℕ
  num_frames = (registers_at - frames_at) / frame_size

  unfoldable pub num_records : ℕ
  num_records = (locations_at - records_at) / record_size

  unfoldable pub num_locations : ℕ
  num_locations = (live_outs_at - locations_at) / location_size

  unfoldable pub num_live_outs : ℕ
  num_live_outs = (length s - live_outs_at) / live_out_size

  -- Padding hides the number of frame registers: it is the greatest index plus count over the frames.
  unfoldable pub num_registers : ℕ
  num_registers = greatest (registers_used s frames_at) 0 num_frames

  -- 38: each offset is the earliest aligned place after the array before, and the section ends with the last live-out
  unfoldable pub offsets_right : Bool
  offsets_right =
      eqb constants_at (align constant_align header_size)
      && eqb frames_at (align frame_align (constants_at + constant_size * num_constants))
      && eqb registers_at (align register_align (frames_at + frame_size * num_frames))
      && eqb records_at (align record_align (registers_at + register_size * num_registers))
      && eqb locations_at (align location_align (records_at + record_size * num_records))
      && eqb live_outs_at (align live_out_align (locations_at + location_size * num_locations))
      && eqb (length s) (live_outs_at + live_out_size * num_live_outs)

-- Tests of the items of an array, one after another.

-- the range of the frame at `at` in the records ends within n of them
abbrev pub frame_inside : List ℕ → ℕ → ℕ → Bool
frame_inside s n at = leb (range_end s (at + record_index_at) (at + record_count_at)) n

-- the ranges of the record at `at` end within n locations and m live-outs
abbrev pub record_inside : List ℕ → ℕ → ℕ → ℕ → Bool
record_inside s n m at =
    leb (range_end s (at + location_index_at) (at + location_count_at)) n
    && leb (range_end s (at + live_out_index_at) (at + live_out_count_at)) m

-- the test holds of n places, the first `at`, each a step after the one before
unfoldable pub along : (ℕ → Bool) → ℕ → ℕ → ℕ → Bool
along test at step n = every (λ i. test (at + step * i)) 0 n

-- n bytes, the first `at`, each a step after the one before, are below the limit
abbrev pub clear : List ℕ → ℕ → ℕ → ℕ → ℕ → Bool
clear s limit = along (λ p. ltb (get_or s p 0) limit)
