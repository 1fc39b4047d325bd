-- The flat format, source document 002's version 2: strides, places of fields, alignments and flags, each named once. Fields are packed
-- as the source lists them, and flags count from the lowest bit.
use Rattle.std.specs.Prelude.{ℕ, ◌+◌, ◌*◌, ◌-◌, ◌/◌}

-- Limits of a section's length.
abbrev pub section_least : ℕ
section_least = 32

abbrev pub section_most : ℕ
section_most = 16777216

-- Header, 28 bytes: version (1), reserved (3), then the offsets of constants, frames, frame registers, records, locations and live-outs
-- (4 each). The constants are aligned to 8, so that 4 bytes of padding follow it.
abbrev pub header_size : ℕ
header_size = 28

abbrev pub version_number : ℕ
version_number = 2

abbrev pub header_reserved_at : ℕ
header_reserved_at = 1

abbrev pub header_reserved_size : ℕ
header_reserved_size = 3

abbrev pub header_padding : ℕ
header_padding = 4

abbrev pub constants_offset_at : ℕ
constants_offset_at = 4

abbrev pub frames_offset_at : ℕ
frames_offset_at = 8

abbrev pub registers_offset_at : ℕ
registers_offset_at = 12

abbrev pub records_offset_at : ℕ
records_offset_at = 16

abbrev pub locations_offset_at : ℕ
locations_offset_at = 20

abbrev pub live_outs_offset_at : ℕ
live_outs_offset_at = 24

-- Constant, 8 bytes.
abbrev pub constant_size : ℕ
constant_size = 8

abbrev pub constant_align : ℕ
constant_align = 8

-- Frame, 28 bytes: function address (8), function size (4), stack size (4), flags (2: HasFrame, HasVariableSizeAlloca,
-- HasStackRealignment, HasLiveOutInfo, 12 reserved), base register (2), number of frame registers (2), their index (2), number of records
-- (2), their index (2).
abbrev pub frame_size : ℕ
frame_size = 28

abbrev pub frame_align : ℕ
frame_align = 8

abbrev pub function_size_at : ℕ
function_size_at = 8

abbrev pub stack_size_at : ℕ
stack_size_at = 12

abbrev pub frame_flags_at : ℕ
frame_flags_at = 16

-- the second byte of the flags
abbrev pub frame_flags_high_at : ℕ
frame_flags_high_at = 17

abbrev pub base_register_at : ℕ
base_register_at = 18

abbrev pub register_count_at : ℕ
register_count_at = 20

abbrev pub register_index_at : ℕ
register_index_at = 22

abbrev pub record_count_at : ℕ
record_count_at = 24

abbrev pub record_index_at : ℕ
record_index_at = 26

-- Frame register, 6 bytes: register (2), signed offset (2), size (1), flags (1: IsSpilled, 7 reserved).
abbrev pub register_size : ℕ
register_size = 6

abbrev pub register_align : ℕ
register_align = 4

abbrev pub register_offset_at : ℕ
register_offset_at = 2

abbrev pub register_size_at : ℕ
register_size_at = 4

abbrev pub register_flags_at : ℕ
register_flags_at = 5

-- Record, 22 bytes: ID (8), instruction offset (4), call size (1), flags (1: HasLiveOutInfo, 7 reserved), number of locations (2), their
-- index (2), number of live-outs (2), their index (2).
abbrev pub record_size : ℕ
record_size = 22

abbrev pub record_align : ℕ
record_align = 8

abbrev pub instruction_offset_at : ℕ
instruction_offset_at = 8

abbrev pub call_size_at : ℕ
call_size_at = 12

abbrev pub record_flags_at : ℕ
record_flags_at = 13

abbrev pub location_count_at : ℕ
location_count_at = 14

abbrev pub location_index_at : ℕ
location_index_at = 16

abbrev pub live_out_count_at : ℕ
live_out_count_at = 18

abbrev pub live_out_index_at : ℕ
live_out_index_at = 20

-- Location, 8 bytes: kind (1), reserved (1), register (2), signed offset or small constant (4).
abbrev pub location_size : ℕ
location_size = 8

abbrev pub location_align : ℕ
location_align = 4

abbrev pub location_reserved_at : ℕ
location_reserved_at = 1

abbrev pub location_register_at : ℕ
location_register_at = 2

abbrev pub location_offset_at : ℕ
location_offset_at = 4

-- Live-out, 4 bytes: register (2), reserved (1), size (1).
abbrev pub live_out_size : ℕ
live_out_size = 4

abbrev pub live_out_align : ℕ
live_out_align = 2

abbrev pub live_out_reserved_at : ℕ
live_out_reserved_at = 2

abbrev pub live_out_size_at : ℕ
live_out_size_at = 3

-- A byte of which only the lowest n bits may be set is below 2 ^ n: none of padding and reserved bytes, four of a frame's flags, one of a
-- frame register's and a record's.
abbrev pub below_none : ℕ
below_none = 1

abbrev pub below_one : ℕ
below_one = 2

abbrev pub below_four : ℕ
below_four = 16

-- the earliest place from n on that k divides
abbrev pub align : ℕ → ℕ → ℕ
align k n = (n + (k - 1)) / k * k
