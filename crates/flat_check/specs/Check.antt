-- The check of a flat section, document 02, request 13: 36 to 40 in this order. Their place is always 0.
use Rattle.std.specs.Prelude.{ℕ, zero, suc, ◌+◌, ◌*◌, ◌-◌, Bool, true, false, ◌&&◌, ◌≡◌, List, eqb, leb, length, get_or}
use Rattle.flat.specs.Layout.{section_least, section_most, header_size, version_number, header_reserved_at, header_reserved_size, header_padding, frame_size, frame_flags_at, frame_flags_high_at, register_size, register_flags_at, record_size, record_flags_at, location_size, location_reserved_at, live_out_size, live_out_reserved_at, below_none, below_one, below_four}
use Rattle.flat.specs.Places.{frame_inside, record_inside, along, clear}
use Rattle.flat.specs.Places.{frames_at, registers_at, records_at, locations_at, live_outs_at, num_frames, num_registers, num_records, num_locations, num_live_outs, offsets_right}

-- k where the test holds, and else the refusal n
unfoldable pub need : Bool → ℕ → ℕ → ℕ
need true n k = k
need false n k = n

-- 36
abbrev pub length_right : List ℕ → Bool
length_right s = leb section_least (length s) && leb (length s) section_most

-- 37
abbrev pub version_right : List ℕ → Bool
version_right s = eqb (get_or s 0 0) version_number

-- 39: no index plus count is past its array. (Those of frame registers can't be: the greatest of them is their number.)
unfoldable pub ranges_right : List ℕ → Bool
ranges_right s =
    along (frame_inside s (num_records s)) (frames_at s) frame_size (num_frames s)
    && along (record_inside s (num_locations s) (num_live_outs s)) (records_at s) record_size (num_records s)

-- where the frame registers and the records end, and padding begins
abbrev pub registers_end : List ℕ → ℕ
registers_end s = registers_at s + register_size * num_registers s

abbrev pub records_end : List ℕ → ℕ
records_end s = records_at s + record_size * num_records s

-- Padding and reserved bits: in the header and after it, in the frames, in the frame registers and after them, in the records and after
-- them, in the locations and the live-outs.

abbrev pub header_clear : List ℕ → Bool
header_clear s = clear s below_none header_reserved_at 1 header_reserved_size && clear s below_none header_size 1 header_padding

abbrev pub frames_clear : List ℕ → Bool
frames_clear s =
    clear s below_four (frames_at s + frame_flags_at) frame_size (num_frames s)
    && clear s below_none (frames_at s + frame_flags_high_at) frame_size (num_frames s)

abbrev pub registers_clear : List ℕ → Bool
registers_clear s =
    clear s below_one (registers_at s + register_flags_at) register_size (num_registers s)
    && clear s below_none (registers_end s) 1 (records_at s - registers_end s)

abbrev pub records_clear : List ℕ → Bool
records_clear s =
    clear s below_one (records_at s + record_flags_at) record_size (num_records s)
    && clear s below_none (records_end s) 1 (locations_at s - records_end s)

abbrev pub items_clear : List ℕ → Bool
items_clear s =
    clear s below_none (locations_at s + location_reserved_at) location_size (num_locations s)
    && clear s below_none (live_outs_at s + live_out_reserved_at) live_out_size (num_live_outs s)

-- 40: none of them is set
unfoldable pub reserved_clear : List ℕ → Bool
reserved_clear s = header_clear s && frames_clear s && registers_clear s && records_clear s && items_clear s

-- the number of the refusal, or 0
unfoldable pub flat_check : List ℕ → ℕ
flat_check s =
    need (length_right s) 36
    (need (version_right s) 37
    (need (offsets_right s) 38
    (need (ranges_right s) 39 (need (reserved_clear s) 40 0))))

abbrev pub Accepted : List ℕ → Type 0
Accepted s = flat_check s ≡ 0

-- Every question first gives the section's own refusal, if any.
unfoldable pub ask : {A : Type 0} → (ℕ → A) → A → ℕ → A
ask refused answer zero = answer
ask refused answer (suc n) = refused (suc n)
