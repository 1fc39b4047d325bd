-- The numbers of document 01, "Section bytes", each named once: sizes in bytes, paddings, kinds and limits. A place in an item is
-- written as its number, where the item is read.
use Rattle.std.specs.Prelude.{ℕ, ◌+◌, ◌*◌, ◌-◌, ◌%◌, ◌^◌, Bool, true, false}

-- The two versions of the format differ in the layout of functions and locations, and in the padding after the locations. Where
-- they do, `old` is true for version 1, which older servers write, and false for version 3.

-- The header: version (one byte), three zero bytes, NumFunctions, NumConstants, NumRecords (4 bytes each).

abbrev pub header_size : ℕ
header_size = 16

abbrev pub version_number : Bool → ℕ
version_number true = 1
version_number false = 3

abbrev pub num_records_at : ℕ
num_records_at = 12

-- A function: address, stack size, record count, 8 each; no record count in version 1.

abbrev pub function_size : Bool → ℕ
function_size true = 16
function_size false = 24

-- a stack size that is not known
abbrev pub stack_size_unknown : ℕ
stack_size_unknown = 2 ^ 64 - 1

abbrev pub constant_size : ℕ
constant_size = 8

-- A record: ID (8), instruction offset (4), flags (2, zero), NumLocations (2); the locations; a padding; 2 zero bytes;
-- NumLiveOuts (2); the live-outs; a padding.

abbrev pub record_head_size : ℕ
record_head_size = 16

-- 4 zero bytes if NumLocations is odd; none in version 1
abbrev pub locations_padding : Bool → ℕ → ℕ
locations_padding true n = 0
locations_padding false n = n % 2 * 4

-- 4 zero bytes if NumLiveOuts is even
abbrev pub live_outs_padding : ℕ → ℕ
live_outs_padding n = (n + 1) % 2 * 4

-- A location: kind (1), zero (1), size (2), register (2), zero (2), signed offset (4). In version 1: kind (1), size (1), register (2),
-- signed offset (4).

abbrev pub location_size : Bool → ℕ
location_size true = 8
location_size false = 12

abbrev pub location_offset_at : Bool → ℕ
location_offset_at true = 4
location_offset_at false = 8

-- Kinds 1 Register, 2 Direct, 3 Indirect, 4 Constant, 5 ConstIndex.

abbrev pub kind_least : ℕ
kind_least = 1

abbrev pub kind_most : ℕ
kind_most = 5

abbrev pub kind_const_index : ℕ
kind_const_index = 5

-- a signed offset is held as its 32 bits: it is negative from here on
abbrev pub negative_from : ℕ
negative_from = 2 ^ 31

-- A live-out: register (2), zero (1), size (1).

abbrev pub live_out_size : ℕ
live_out_size = 4

-- Limits: a section's length, and an address.

abbrev pub section_most : ℕ
section_most = 16777216

abbrev pub address_most : ℕ
address_most = 2 ^ 64 - 1
