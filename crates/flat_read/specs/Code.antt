-- For the code alone: nothing here has to be believed.
-- The six arrays of a section: how many items each has, where they begin, their size, and the refusal where there is no such item.
use Rattle.std.specs.Prelude.{ℕ, ◌+◌, ◌*◌, ◌≤◌, ◌<◌, ◌≡◌, List, length}
use Rattle.flat.specs.Layout.{section_least, constant_size, frame_size, register_size, record_size, location_size, live_out_size}
use Rattle.flat.specs.Places.{frames_at, registers_at, records_at, locations_at, live_outs_at, num_constants, num_frames, num_registers, num_records, num_locations, num_live_outs}
use Rattle.flat_check.specs.Check.{flat_check}
use Rattle.flat_read.specs.declared.Array.{Array}
use Rattle.flat_read.specs.declared.Array.TheVariants.{Constants, Frames, Registers, Records, Locations, LiveOuts}

abbrev pub count_of : Array → List ℕ → ℕ
count_of Constants s = num_constants s
count_of Frames s = num_frames s
count_of Registers s = num_registers s
count_of Records s = num_records s
count_of Locations s = num_locations s
count_of LiveOuts s = num_live_outs s

abbrev pub start_of : Array → List ℕ → ℕ
start_of Constants s = section_least
start_of Frames s = frames_at s
start_of Registers s = registers_at s
start_of Records s = records_at s
start_of Locations s = locations_at s
start_of LiveOuts s = live_outs_at s

abbrev pub size_of : Array → ℕ
size_of Constants = constant_size
size_of Frames = frame_size
size_of Registers = register_size
size_of Records = record_size
size_of Locations = location_size
size_of LiveOuts = live_out_size

abbrev pub missing_of : Array → ℕ
missing_of Constants = 11
missing_of Frames = 10
missing_of Registers = 11
missing_of Records = 10
missing_of Locations = 11
missing_of LiveOuts = 11

-- the item k of an array stands there
pub record Placed (a : Array) (s : List ℕ) (k at : ℕ) : Type 0 where
  pub accepted : flat_check s ≡ 0
  pub there : k < count_of a s
  pub place : at ≡ start_of a s + size_of a * k
  pub inside : at + size_of a ≤ length s

-- n is the refusal of a question on the item k of an array
pub record Missed (a : Array) (s : List ℕ) (k n : ℕ) : Type 0 where
  pub first : (flat_check s ≡ 0 → ⊥) → n ≡ flat_check s
  pub then : flat_check s ≡ 0 → (count_of a s ≤ k) × (n ≡ missing_of a)
