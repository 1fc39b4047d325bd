-- For the code alone: nothing here has to be believed.
-- What a pass over the records of a listing finds. Here and in the other modules the listing is what follows the version's item.
use Rattle.std.specs.Prelude.{ℕ, ◌+◌, ◌*◌, ◌≤◌, ◌≡◌, List, Bool, true, false, length}
use Rattle.stackmap.specs.Verdict.{Refused}
use Rattle.stackmap.specs.Layout.{record_head_size, location_size, locations_padding, live_out_size, live_outs_padding}
use Rattle.stackmap.specs.Fields.{size, all, many}
use Rattle.stackmap.specs.Section.{Function, Record, record_fields}
use Rattle.listing.specs.Layout.{function_item_size, constant_item_size, record_kind, record_item_size}
use Rattle.listing.specs.Listing.{stands, listed_function, listed_records, records_stop, not_too_many}
use Rattle.parser_items.specs.Count.{TablesCounted}

-- the bytes of a record with n locations and m live-outs, in a section of version 1 where `old` is true
abbrev pub record_size : Bool → ℕ → ℕ → ℕ
record_size old n m = record_head_size + location_size old * n + locations_padding old n + 4 + live_out_size * m + live_outs_padding m

module _ (l : List ℕ) where
  -- n functions from the start on
  abbrev pub functions_of : ℕ → List Function
  functions_of n = many listed_function function_item_size n l 0

  -- the records from the item at `at` on, and where they stop
  abbrev pub records_from : ℕ → List Record
  records_from at = listed_records l (length l) at

  abbrev pub stop_from : ℕ → ℕ
  stop_from at = records_stop l (length l) at

  -- between `from` and `at` stand this many whole records, none with too many items
  pub record Passed (from records at : ℕ) : Type 0 where
    pub inside : at ≤ length l
    pub few : records ≤ at
    pub stops : stop_from from ≡ stop_from at
    pub checks : not_too_many (records_from from) from ≡ not_too_many (records_from at) at
    pub counted : length (records_from from) ≡ records + length (records_from at)

  -- they take so many bytes in a section
  pub record Measured (old : Bool) (from bytes at : ℕ) : Type 0 where
    pub short : bytes ≤ 3 * at
    pub sized : size (all (record_fields old) (records_from from)) ≡ bytes + size (all (record_fields old) (records_from at))

  -- what ends the pass: a record with too many items stands here, or none at all
  abbrev pub Ends : ℕ → Bool → Type 0
  Ends at true = not_too_many (records_from at) at ≡ Refused 23 at
  Ends at false = stands record_kind record_item_size l at ≡ false

  -- where the records of this many functions and constants begin
  abbrev pub records_after : ℕ → ℕ → ℕ
  records_after functions constants = function_item_size * functions + constant_item_size * constants

  -- what is known of a listing before its section is written: how many functions, constants and records, and the bytes of
  -- the records in the section
  pub record Planned (old : Bool) (functions constants records bytes : ℕ) : Type 0 where
    pub tables : TablesCounted l functions constants
    pub counted : length (records_from (records_after functions constants)) ≡ records
    pub sized : size (all (record_fields old) (records_from (records_after functions constants))) ≡ bytes
    pub few : records ≤ length l
    pub short : bytes ≤ 3 * length l
