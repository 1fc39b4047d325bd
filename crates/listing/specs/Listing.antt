-- The listing, in the words and order of document 01, "The listing", and of document 02, request 2. Where the versions differ, `old` is
-- true for version 1.
use Rattle.std.specs.Prelude.{ℕ, zero, suc, ◌+◌, ◌*◌, List, [], ◌∷◌, ◌++◌, Bool, true, false, ◌&&◌, length, get_or, drop, leb, eqb}
use Rattle.wire.specs.Word.{word}
use Rattle.stackmap.specs.Check.{section_check}
use Rattle.stackmap.specs.Fields.{size, Field, ◌of◌, all, bytes_of, many}
use Rattle.listing.specs.Layout.{listing_most, items_most, old_size_most, version_kind, version_item_size, function_kind, constant_kind, record_kind}
use Rattle.listing.specs.Layout.{location_kind, live_out_kind, end_kind, function_item_size, constant_item_size, record_item_size, location_item_size}
use Rattle.listing.specs.Layout.{live_out_item_size, end_item_size}
use Rattle.stackmap.specs.Section.{Function, LiveOut, Location, Record, Section, encode_section, read_section}
use Rattle.stackmap.specs.Layout.{version_number}
use Rattle.stackmap.specs.Verdict.{chain, must, shift}
use Rattle.stackmap.specs.Verdict.{Verdict}
use Rattle.stackmap.specs.Verdict.{Valid, Refused}

-- Items are one byte of kind, then a body whose length the kind fixes.

-- 1 function (address 8, stack size 8, record count 8)
unfoldable pub function_item : Function → List Field
function_item f = (1 of function_kind) ∷ (8 of f.address) ∷ (8 of f.stack_size) ∷ (8 of f.count) ∷ []

-- 2 constant (8)
unfoldable pub constant_item : ℕ → List Field
constant_item v = (1 of constant_kind) ∷ (8 of v) ∷ []

-- 3 record (ID 8, offset 4)
unfoldable pub record_item : Record → List Field
record_item r = (1 of record_kind) ∷ (8 of r.id) ∷ (4 of r.offset) ∷ []

-- 4 location (kind 1, size 2, register 2, offset 4)
unfoldable pub location_item : Location → List Field
location_item l = (1 of location_kind) ∷ (1 of l.kind) ∷ (2 of l.size) ∷ (2 of l.register) ∷ (4 of l.offset) ∷ []

-- 5 live-out (register 2, size 1)
unfoldable pub live_out_item : LiveOut → List Field
live_out_item o = (1 of live_out_kind) ∷ (2 of o.register) ∷ (1 of o.size) ∷ []

-- 6 end (nothing)
abbrev pub end_item : List Field
end_item = (1 of end_kind) ∷ []

unfoldable pub record_items : Record → List Field
record_items r = record_item r ++ (all location_item r.locations ++ all live_out_item r.live_outs)

-- 7 version (1): a listing of version 1 begins with it
unfoldable pub version_item : Bool → List Field
version_item true = (1 of version_kind) ∷ (1 of version_number true) ∷ []
version_item false = []

-- functions, then constants, then each record with its locations and then its live-outs, then one end and nothing after it
unfoldable pub item_fields : Section → List Field
item_fields t =
    all function_item t.functions ++ (all constant_item t.constants ++ (all record_items t.records ++ end_item))

unfoldable pub listing_fields : Section → List Field
listing_fields t = version_item t.old ++ item_fields t

unfoldable pub encode_listing : Section → List ℕ
encode_listing t = bytes_of (listing_fields t)

-- What a listing is read as.

-- a whole item of the kind k, n bytes with its kind, stands at `at`
unfoldable pub stands : ℕ → ℕ → List ℕ → ℕ → Bool
stands k n l at = leb (at + n) (length l) && eqb (get_or l at 0) k

-- how many of them stand one after the other; m is a bound
unfoldable pub run : ℕ → ℕ → ℕ → List ℕ → ℕ → ℕ
run k n zero l at = 0
run k n (suc m) l at = elim (stands k n l at) [ true ↦ suc (run k n m l (at + n)) | false ↦ 0 ]

unfoldable pub listed_function : List ℕ → ℕ → Function
listed_function l at = record { address = word 8 l (at + 1); stack_size = word 8 l (at + 9); count = word 8 l (at + 17) }

unfoldable pub listed_constant : List ℕ → ℕ → ℕ
listed_constant l at = word 8 l (at + 1)

unfoldable pub listed_location : List ℕ → ℕ → Location
listed_location l at =
    record { kind = word 1 l (at + 1); size = word 2 l (at + 2); register = word 2 l (at + 4); offset = word 4 l (at + 6) }

unfoldable pub listed_live_out : List ℕ → ℕ → LiveOut
listed_live_out l at = record { register = word 2 l (at + 1); size = word 1 l (at + 3) }

-- The items after the version's.
module _ (l : List ℕ) where
  -- the record item at `at`, with the locations and the live-outs after it
  abbrev pub listed_locations : ℕ → ℕ
  listed_locations at = run location_kind location_item_size (length l) l (at + record_item_size)

  abbrev pub live_outs_begin : ℕ → ℕ
  live_outs_begin at = at + record_item_size + location_item_size * listed_locations at

  abbrev pub listed_live_outs : ℕ → ℕ
  listed_live_outs at = run live_out_kind live_out_item_size (length l) l (live_outs_begin at)

  unfoldable pub listed_record : ℕ → Record
  listed_record at =
      record {
        id = word 8 l (at + 1);
        offset = word 4 l (at + 9);
        locations = many listed_location location_item_size (listed_locations at) l (at + record_item_size);
        live_outs = many listed_live_out live_out_item_size (listed_live_outs at) l (live_outs_begin at);
      }

  unfoldable pub record_stop : ℕ → ℕ
  record_stop at = live_outs_begin at + live_out_item_size * listed_live_outs at

  -- all records from `at`, and where they stop; m is a bound
  unfoldable pub listed_records : ℕ → ℕ → List Record
  listed_records zero at = []
  listed_records (suc m) at = elim (stands record_kind record_item_size l at) [ true ↦ listed_record at ∷ listed_records m (record_stop at) | false ↦ [] ]

  unfoldable pub records_stop : ℕ → ℕ → ℕ
  records_stop zero at = at
  records_stop (suc m) at = elim (stands record_kind record_item_size l at) [ true ↦ records_stop m (record_stop at) | false ↦ at ]

  abbrev pub functions_listed : ℕ
  functions_listed = run function_kind function_item_size (length l) l 0

  abbrev pub constants_listed : ℕ
  constants_listed = run constant_kind constant_item_size (length l) l (function_item_size * functions_listed)

  abbrev pub records_begin : ℕ
  records_begin = function_item_size * functions_listed + constant_item_size * constants_listed

  unfoldable pub read_items : Bool → Section
  read_items old =
      record {
        old = old;
        functions = many listed_function function_item_size functions_listed l 0;
        constants = many listed_constant constant_item_size constants_listed l (function_item_size * functions_listed);
        records = listed_records (length l) records_begin;
      }

  -- the first item that no rule lets stand where it does
  unfoldable pub items_stop : ℕ
  items_stop = records_stop (length l) records_begin

-- whether a listing begins with the item of version 1; any other item 7 breaks the grammar, as no rule lets it stand
unfoldable pub listed_old : List ℕ → Bool
listed_old l = stands version_kind version_item_size l 0 && eqb (get_or l 1 0) (version_number true)

-- the bytes of the version's item
abbrev pub version_length : Bool → ℕ
version_length true = version_item_size
version_length false = 0

-- the items after it
abbrev pub items_of : List ℕ → List ℕ
items_of l = drop (version_length (listed_old l)) l

unfoldable pub read_listing : List ℕ → Section
read_listing l = read_items (items_of l) (listed_old l)

-- 23, at the record item
unfoldable pub not_too_many : List Record → ℕ → Verdict
not_too_many [] at = Valid at
not_too_many (r ∷ rs) at =
    must (leb (length r.locations) items_most && leb (length r.live_outs) items_most) 23 at (not_too_many rs (at + size (record_items r)))

-- 28 in version 1, at the item: record counts must be 0, and sizes at most 255

unfoldable pub no_counts : List Function → ℕ → Verdict
no_counts [] at = Valid at
no_counts (f ∷ fs) at = must (eqb f.count 0) 28 at (no_counts fs (at + function_item_size))

unfoldable pub small_sizes : List Location → ℕ → Verdict
small_sizes [] at = Valid at
small_sizes (l ∷ ls) at = must (leb l.size old_size_most) 28 at (small_sizes ls (at + location_item_size))

unfoldable pub all_small_sizes : List Record → ℕ → Verdict
all_small_sizes [] at = Valid at
all_small_sizes (r ∷ rs) at = chain (small_sizes r.locations (at + record_item_size)) (all_small_sizes rs (at + size (record_items r)))

unfoldable pub old_right : Bool → List Function → List Record → ℕ → Verdict
old_right true fs rs at = chain (no_counts fs 0) (all_small_sizes rs at)
old_right false fs rs at = Valid at

-- the items after the version's: 22, 23, 28
unfoldable pub items_check : Bool → List ℕ → Verdict
items_check old l =
    must (stands end_kind end_item_size l (items_stop l)) 22 (items_stop l)
    (must (eqb (items_stop l + end_item_size) (length l)) 22 (items_stop l + end_item_size)
    (chain (not_too_many (read_items l old).records (records_begin l))
    (chain (old_right old (read_items l old).functions (read_items l old).records (records_begin l))
    (Valid (length l)))))

-- a place counts from the listing's first byte
unfoldable pub listing_check : List ℕ → Verdict
listing_check l =
    must (leb (length l) listing_most) 1 0 (shift (version_length (listed_old l)) (items_check (listed_old l) (items_of l)))

-- The conversions.

-- the answer, and the output that is left
pub record Converted : Type 0 where
  pub number : ℕ
  pub place : ℕ
  pub written : ℕ
  pub output : List ℕ

-- the result, where there is no refusal and it fits
abbrev pub give : Verdict → List ℕ → List ℕ → Converted
give (Refused n p) result out = record { number = n; place = p; written = 0; output = out }
give (Valid e) result out =
    elim (leb (length result) (length out)) [
      | true ↦ record { number = 0; place = 0; written = length result; output = result ++ drop (length result) out }
      | false ↦ record { number = 24; place = 0; written = 0; output = out }
    ]

-- the section's refusal, then 24
unfoldable pub to_listing : List ℕ → List ℕ → Converted
to_listing s out = give (section_check s) (encode_listing (read_section s)) out

-- 1, 22, 23, 28, then the refusal the built section would get, at its place there, then 24
unfoldable pub to_section : List ℕ → List ℕ → Converted
to_section l out =
    give (chain (listing_check l) (section_check (encode_section (read_listing l)))) (encode_section (read_listing l)) out
