-- The check of one record, which stands at the start of s, in document 01's order: 4, 8, then its bytes from left to right
-- (3, 6), with 7 at the end of its location. Places are counted from the record's first byte.
use Rattle.std.specs.Prelude.{ℕ, zero, suc, ◌+◌, ◌*◌, Bool, true, false, List, length, get_or, ltb, leb, eqb}
use Rattle.wire.specs.Word.{word}
use Rattle.stackmap.specs.Verdict.{Verdict}
use Rattle.stackmap.specs.Verdict.{Valid}
use Rattle.stackmap.specs.Layout.{record_head_size, locations_padding, live_outs_padding, location_size, location_offset_at, kind_least, kind_most, kind_const_index, negative_from, live_out_size, address_most}
use Rattle.stackmap.specs.Verdict.{must, chain, pick}
use Rattle.stackmap.specs.Section.{num_locations, num_live_outs, live_outs_at, record_length}

-- 3: n bytes from `at` are zero
unfoldable pub zeros : ℕ → List ℕ → ℕ → Verdict
zeros zero s at = Valid at
zeros (suc n) s at = must (eqb (get_or s at 0) 0) 3 at (zeros n s (at + 1))

-- 3: the zero bytes of a location; version 1 has none
unfoldable pub location_zeros : Bool → List ℕ → ℕ → Verdict → Verdict
location_zeros true s at k = k
location_zeros false s at k =
    must (eqb (get_or s (at + 1) 0) 0) 3 (at + 1)
    (must (eqb (get_or s (at + 6) 0) 0) 3 (at + 6)
    (must (eqb (get_or s (at + 7) 0) 0) 3 (at + 7) k))

-- 7: the pool entry of a ConstIndex location of this kind and offset; it stands at `at`, and ends at `end`
unfoldable pub pool_check : ℕ → ℕ → ℕ → ℕ → ℕ → Verdict
pool_check kind offset c at end =
    pick (eqb kind kind_const_index)
    (must (ltb offset negative_from) 7 at (must (ltb offset c) 7 at (Valid end)))
    (Valid end)

-- a location, in a section of c constants: 6 for its kind, 3 for its zero bytes, 7 for a ConstIndex
unfoldable pub location_check : Bool → List ℕ → ℕ → ℕ → Verdict
location_check old s c at =
    must (leb kind_least (get_or s at 0)) 6 at
    (must (leb (get_or s at 0) kind_most) 6 at
    (location_zeros old s at
    (pool_check (get_or s at 0) (word 4 s (at + location_offset_at old)) c at (at + location_size old))))

-- n locations from `at`
unfoldable pub locations : Bool → ℕ → List ℕ → ℕ → ℕ → Verdict
locations old zero s c at = Valid at
locations old (suc n) s c at = chain (location_check old s c at) (locations old n s c (at + location_size old))

-- n live-outs from `at`: the third byte of each is zero
unfoldable pub live_outs : ℕ → List ℕ → ℕ → Verdict
live_outs zero s at = Valid at
live_outs (suc n) s at =
    must (eqb (get_or s (at + 2) 0) 0) 3 (at + 2) (live_outs n s (at + live_out_size))

-- 4: it is wholly inside
unfoldable pub record_inside : Bool → List ℕ → Verdict
record_inside old s = must (leb (record_length old s) (length s)) 4 0 (Valid (record_length old s))

-- its bytes from left to right: the flags, the locations, the padding with 2 zero bytes more, the live-outs, the padding
unfoldable pub record_bytes : Bool → List ℕ → ℕ → Verdict
record_bytes old s c =
    chain (zeros 2 s 12)
    (chain (locations old (num_locations s) s c record_head_size)
    (chain (zeros (locations_padding old (num_locations s) + 2) s (record_head_size + location_size old * num_locations s))
    (chain (live_outs (num_live_outs old s) s (live_outs_at old s))
    (chain (zeros (live_outs_padding (num_live_outs old s)) s (live_outs_at old s + live_out_size * num_live_outs old s))
    (Valid (record_length old s))))))

-- 8: a record's address, its function's plus its instruction offset, is one; version 1 does not say whose a record is
unfoldable pub address_right : Bool → ℕ → Bool
address_right true a = true
address_right false a = leb a address_most

-- 4, 8, then its bytes; it belongs to a function at the address a
unfoldable pub record_check : Bool → List ℕ → ℕ → ℕ → Verdict
record_check old s c a =
    chain (record_inside old s) (must (address_right old (a + word 4 s 8)) 8 0 (record_bytes old s c))
