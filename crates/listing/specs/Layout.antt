-- The numbers of document 01, "The listing", each named once: the kinds of items, their lengths with the kind's byte, and limits.
use Rattle.std.specs.Prelude.{ℕ}

-- 1 function (address 8, stack size 8, record count 8)
abbrev pub function_kind : ℕ
function_kind = 1

abbrev pub function_item_size : ℕ
function_item_size = 25

-- 2 constant (8)
abbrev pub constant_kind : ℕ
constant_kind = 2

abbrev pub constant_item_size : ℕ
constant_item_size = 9

-- 3 record (ID 8, offset 4)
abbrev pub record_kind : ℕ
record_kind = 3

abbrev pub record_item_size : ℕ
record_item_size = 13

-- 4 location (kind 1, size 2, register 2, offset 4)
abbrev pub location_kind : ℕ
location_kind = 4

abbrev pub location_item_size : ℕ
location_item_size = 10

-- 5 live-out (register 2, size 1)
abbrev pub live_out_kind : ℕ
live_out_kind = 5

abbrev pub live_out_item_size : ℕ
live_out_item_size = 4

-- 6 end (nothing)
abbrev pub end_kind : ℕ
end_kind = 6

abbrev pub end_item_size : ℕ
end_item_size = 1

-- 7 version (1): a listing of version 1 begins with it, and one of version 3 has none
abbrev pub version_kind : ℕ
version_kind = 7

abbrev pub version_item_size : ℕ
version_item_size = 2

-- a listing's length
abbrev pub listing_most : ℕ
listing_most = 33554432

-- locations or live-outs in a record
abbrev pub items_most : ℕ
items_most = 65535

-- a location's size in version 1
abbrev pub old_size_most : ℕ
old_size_most = 255
