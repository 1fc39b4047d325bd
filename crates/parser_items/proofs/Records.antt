-- A pass over the records of a listing, one record after the other.
use Prim.Native.Nat.{ℕ, ◌+◌, ◌*◌, ◌≤◌, ◌<◌}
use mathlib.Core.Path.{◌≡◌, refl, ◌∙◌, ap}
use mathlib.Core.List.{List, ◌∷◌}
use mathlib.Core.Logic.{◌⊎◌, inl, inr}
use mathlib.Core.Bool.{Bool, true, false, ◌&&◌, and-false}
use native.Mathlib.Omega.{arith}
use borrow.Author.Tests.{le-leb, lt-leb}
use lib.ListN.{length}
use lib.Dec.{leb}
use Rattle.stackmap.specs.Verdict.{Refused}
use Rattle.stackmap.specs.Fields.{size, all}
use Rattle.stackmap.specs.Section.{record_fields}
use Rattle.stackmap.specs.Verdict.{must}
use Rattle.stackmap.proofs.Fields.{size-append, length-many}
use Rattle.stackmap.proofs.Back.{record_size_lem}
use Rattle.listing.specs.Layout.{record_kind, record_item_size, location_item_size, live_out_item_size, items_most}
use Rattle.listing.specs.Listing.{record_items, stands, listed_record, record_stop, not_too_many}
use Rattle.listing.proofs.Listing.{items_size}
use Rattle.parser_items.specs.Count.{RecordCounted}
use Rattle.parser_items.specs.Survey.{record_size, records_from, stop_from, Passed, Measured}
use Rattle.listing.proofs.Bound.{records_on}
use Rattle.listing.proofs.Items.{is_item, records_no}

-- a record of a section is at most three times as long as its items
pub size-most : (old : Bool) (n m : ℕ) → record_size old n m ≤ 3 * (record_item_size + location_item_size * n + live_out_item_size * m)
size-most true n m = omega arith
size-most false n m = omega arith

module _ {l : List ℕ} {at n m stop : ℕ} (h : RecordCounted l at n m stop) where
  -- the record that stands here
  pub shape_lengths : (length (listed_record l at).locations ≡ n) × (length (listed_record l at).live_outs ≡ m)
  unfolding listed_record
  shape_lengths = (rw (length-many, ← h.locations_are), rw (length-many, ← h.live_outs_are))

  pub shape_stop : record_stop l at ≡ stop
  unfolding record_stop
  shape_stop = rw (h.stops, ← h.live_outs_are, ← h.locations_are)

  pub shape_size : (old : Bool) → size (record_fields old (listed_record l at)) ≡ record_size old n m
  shape_size old = rw (record_size_lem old (listed_record l at), shape_lengths.0, shape_lengths.1)

  pub shape_items : at + size (record_items (listed_record l at)) ≡ stop
  shape_items =
      let z = items_size (listed_record l at) in
      let s = h.stops in
      rw (z, shape_lengths.0, shape_lengths.1) (omega arith)

  module _ (e : stands record_kind record_item_size l at ≡ true) where
    pub records-here : records_from l at ≡ listed_record l at ∷ records_from l stop
    records-here = rw (← shape_stop) (records_on l at e).0

    pub stops-here : stop_from l at ≡ stop_from l stop
    stops-here = rw (← shape_stop) (records_on l at e).1

    pub check-here : not_too_many (records_from l at) at ≡ must (leb n items_most && leb m items_most) 23 at (not_too_many (records_from l stop) stop)
    unfolding not_too_many
    check-here = rw (records-here, shape_lengths.0, shape_lengths.1, shape_items)

    pub sized-here : (old : Bool) → size (all (record_fields old) (records_from l at)) ≡ record_size old n m + size (all (record_fields old) (records_from l stop))
    unfolding all
    sized-here old = rw (records-here, size-append, shape_size old)

    -- it has too many locations or live-outs
    pub crowded : (items_most < n) ⊎ (n ≤ items_most) × (items_most < m) → not_too_many (records_from l at) at ≡ Refused 23 at
    unfolding must
    crowded (inl b) = rw (check-here, lt-leb _ _ b)
    crowded (inr b) = rw (check-here, lt-leb m _ b.1, and-false)

    -- it has not: the pass goes on behind it
    pub passed_on : {from records : ℕ} → n ≤ items_most → m ≤ items_most → Passed l from records at → Passed l from (records + 1) stop
    unfolding must
    passed_on a b p =
        let z = h.stops in
        let f = p.few in
        let c = p.counted in
        let k = ap length records-here in
        record {
          inside = h.inside;
          few = omega arith;
          stops = p.stops ∙ stops-here;
          checks = p.checks ∙ rw (check-here, le-leb _ _ a, le-leb _ _ b);
          counted = omega arith;
        }

    pub measured_on : {old : Bool} {from bytes : ℕ} → Measured l old from bytes at → Measured l old from (bytes + record_size old n m) stop
    measured_on {old} p =
        let z = h.stops in
        let s = p.short in
        let d = p.sized in
        let j = sized-here old in
        let r = size-most old n m in
        record { short = omega arith; sized = omega arith }

pub passed_start : {l : List ℕ} {from : ℕ} → from ≤ length l → Passed l from 0 from
passed_start h = record { inside = h; few = omega arith; stops = refl; checks = refl; counted = omega arith }

pub measured_start : {l : List ℕ} {old : Bool} {from : ℕ} → Measured l old from 0 from
measured_start = record { short = omega arith; sized = omega arith }

-- where records are ahead, one stands here
pub some_record : (l : List ℕ) (at : ℕ) → 0 < length (records_from l at) → stands record_kind record_item_size l at ≡ true
some_record l at h = go (stands record_kind record_item_size l at) refl
  where
    go : (b : Bool) → stands record_kind record_item_size l at ≡ b → stands record_kind record_item_size l at ≡ true
    go true e = e
    go false e = absurd (let z : length (records_from l at) ≡ 0 = rw (records_no l (length l) at e).0 in omega arith)

pub record_inside_lem : (l : List ℕ) (at : ℕ) → 0 < length (records_from l at) → at + record_item_size ≤ length l
record_inside_lem l at h = (is_item record_kind record_item_size l at (some_record l at h)).0
