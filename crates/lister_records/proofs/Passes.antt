-- The passes over the records: what is left of them, in the section and in the listing.
use Prim.Native.Nat.{ℕ, ◌+◌, ◌*◌, ◌-◌, ◌≤◌, ◌<◌}
use mathlib.Core.Path.{◌≡◌, refl, sym, ◌∙◌}
use mathlib.Core.Bool.{Bool}
use mathlib.Core.List.{List}
use native.Mathlib.Omega.{arith}
use lib.ListN.{length, take, drop, length-drop}
use Rattle.stackmap.specs.Layout.{location_size}
use Rattle.stackmap.specs.Fields.{Field, size, all, many}
use Rattle.stackmap.specs.Section.{record_fields, read_location, read_live_out, num_locations, num_live_outs, record_length, read_record, read_records}
use Rattle.stackmap.specs.Shape.{RecordLayout}
use Rattle.stackmap.proofs.Fields.{size-append}
use Rattle.stackmap.proofs.Parts.{count-locations, count-live_outs}
use Rattle.stackmap.proofs.Forth.{read-size}
use Rattle.stackmap.proofs.Within.{part-from}
use Rattle.listing.specs.Listing.{record_item, location_item, live_out_item, record_items}
use Rattle.listing.proofs.Listing.{items_size}
use Rattle.listing.proofs.Short.{records-short}
use Rattle.lister_items.specs.Put.{Put}
use Rattle.lister_items.proofs.Puts.{Putting, putting_start, putting_on, putting_end, put_join, put-long, first_record, no_record}

-- One record, which stands at the start of s.

module _ (old : Bool) (s : List ℕ) where
  module _ {locations outs begin long : ℕ} (h : RecordLayout old s locations outs begin long) where
    locations-read : locations ≡ num_locations s
    locations-read = h.locations_are ∙ count-locations old s

    outs-read : outs ≡ num_live_outs old s
    outs-read = h.outs_are ∙ count-live_outs old s

    pub shaped_size : 13 + 10 * locations + 4 * outs ≡ size (record_items (read_record old s))
    shaped_size = rw (h.locations_are, h.outs_are) (sym (items_size (read_record old s)))

    -- where its parts stand
    pub shaped_inside : record_length old s ≤ length s → (16 + location_size old * locations ≤ length s) × (begin + 4 * outs ≤ length s)
    unfolding record_length
    shaped_inside i = rw (locations-read, outs-read, h.begins) (omega arith, omega arith)

    -- its item, its locations and its live-outs are all of it
    pub record_join : {o₀ o₁ o₂ o₃ : List ℕ} {a b c d : ℕ} → Put o₀ o₁ a b (record_item (read_record old s))
        → Put o₁ o₂ b c (all location_item (many (read_location old) (location_size old) locations s 16)) → Put o₂ o₃ c d (all live_out_item (many read_live_out 4 outs s begin))
        → Put o₀ o₃ a d (record_items (read_record old s))
    unfolding record_items read_record
    record_join p q r =
        put_join (record_item (read_record old s)) _ p (put_join _ _ (rw locations-read at q) (rw (outs-read, h.begins) at r))

-- The records from a place on.

module _ (old : Bool) (s : List ℕ) where
  -- the sizes of n records from p on, in the section and in the listing
  abbrev pub in_section : ℕ → ℕ → ℕ
  in_section n p = size (all (record_fields old) (read_records old n s p))

  abbrev pub in_listing : ℕ → ℕ → ℕ
  in_listing n p = size (all record_items (read_records old n s p))

  section_step : (n p : ℕ) → 0 < n → in_section n p ≡ record_length old (drop p s) + in_section (n - 1) (p + record_length old (drop p s))
  section_step n p h = rw (first_record old (record_fields old) s n p h, size-append, read-size)

  listing_step : (n p : ℕ) → 0 < n → in_listing n p ≡ size (record_items (read_record old (drop p s))) + in_listing (n - 1) (p + record_length old (drop p s))
  listing_step n p h = rw (first_record old record_items s n p h, size-append)

  -- the next record is whole in the part from p on
  next-inside : (n p : ℕ) → p + in_section n p ≤ length s → 0 < n → record_length old (drop p s) ≤ length (drop p s)
  next-inside n p i h = rw length-drop (omega (arith, section_step n p h))

  -- and so are those after it
  next_on : (n p : ℕ) {long : ℕ} → p + in_section n p ≤ length s → 0 < n → long ≡ record_length old (drop p s) → p + long + in_section (n - 1) (p + long) ≤ length s
  next_on n p i h e = rw e (omega (arith, section_step n p h))

-- the part `&s[p..]`, as it is seen by what is called
pub shaped_part : (old : Bool) (s : List ℕ) (p : ℕ) {locations outs begin long : ℕ} → RecordLayout old (take (length s - p) (drop p s)) locations outs begin long
    → RecordLayout old (drop p s) locations outs begin long
shaped_part old s p h = rw part-from at h

-- A pass that adds up how long the items of the records are: `left` from p are ahead.
pub record Measuring (old : Bool) (s : List ℕ) (whole : ℕ) (p left total : ℕ) : Type 0 where
  pub inside : p + in_section old s left p ≤ length s
  pub there : total + in_listing old s left p ≡ whole
  -- so that no sum overflows
  pub most : 16 * whole ≤ 25 * length s

pub measure_start : (old : Bool) (s : List ℕ) (count at : ℕ) → at + in_section old s count at ≤ length s → Measuring old s (in_listing old s count at) at count 0
measure_start old s count at h = record { inside = h; there = omega arith; most = omega (arith, records-short old (read_records old count s at)) }

module _ {old : Bool} {s : List ℕ} {whole p left total : ℕ} (m : Measuring old s whole p left total) where
  -- the part from p on has the next record whole
  pub measure_here : 0 < left → record_length old (take (length s - p) (drop p s)) ≤ length (take (length s - p) (drop p s))
  measure_here h = rw part-from (next-inside old s left p m.inside h)

  pub measure_on : 0 < left → {left' : ℕ} → left' ≡ left - 1 → {locations outs begin long : ℕ} → RecordLayout old (take (length s - p) (drop p s)) locations outs begin long
      → Measuring old s whole (p + long) left' (total + (13 + 10 * locations + 4 * outs))
  measure_on h e {locations} {outs} {begin} {long} q =
      let r = shaped_part old s p q in
      rw e
      record {
        inside = next_on old s left p m.inside h r.ends;
        there = rw r.ends (let x = m.there in omega (arith, listing_step old s left p h, shaped_size old (drop p s) r));
        most = m.most;
      }

  -- the next record is inside, and no sum overflows
  pub measure_fits : 0 < left → {locations outs begin long : ℕ} → RecordLayout old (take (length s - p) (drop p s)) locations outs begin long
      → (p + long ≤ length s) × (16 * (total + (13 + 10 * locations + 4 * outs)) ≤ 25 * length s)
  measure_fits h q =
      let n = measure_on h refl q in
      let i = n.inside in
      let x = n.there in
      let y = n.most in
      (omega arith, omega arith)

  pub measure_end : left ≡ 0 → total ≡ whole
  measure_end h =
      let z : in_listing old s left p ≡ 0 = rw (no_record old record_items s left p h) (unfold size in refl) in
      let x = m.there in
      omega arith

-- A pass that writes the items of the records.
pub record Passing (old : Bool) (s out₀ : List ℕ) (to : ℕ) (whole : List Field) (out : List ℕ) (p left t : ℕ) : Type 0 where
  pub inside : p + in_section old s left p ≤ length s
  pub room : t + in_listing old s left p ≤ length out
  pub putting : Putting out₀ to whole out t (all record_items (read_records old left s p))

pub pass_start : {old : Bool} {s out : List ℕ} {count at to : ℕ} → at + in_section old s count at ≤ length s → to + in_listing old s count at ≤ length out
    → Passing old s out to (all record_items (read_records old count s at)) out at count to
pass_start h k = record { inside = h; room = k; putting = putting_start _ _ _ }

module _ {old : Bool} {s out₀ out : List ℕ} {to p left t : ℕ} {whole : List Field} (m : Passing old s out₀ to whole out p left t) where
  pub pass_here : 0 < left
      → (record_length old (take (length s - p) (drop p s)) ≤ length (take (length s - p) (drop p s)))
      × (t + size (record_items (read_record old (take (length s - p) (drop p s)))) ≤ length out)
  pass_here h = rw part-from (next-inside old s left p m.inside h, let r = m.room in omega (arith, listing_step old s left p h))

  pub pass_on : 0 < left → {left' : ℕ} → left' ≡ left - 1 → {out' : List ℕ} {long t' : ℕ} → long ≡ record_length old (take (length s - p) (drop p s))
      → Put out out' t t' (record_items (read_record old (take (length s - p) (drop p s)))) → Passing old s out₀ to whole out' (p + long) left' t'
  pass_on h n {out'} {long} {t'} e q =
      let d : long ≡ record_length old (drop p s) = rw part-from at e in
      let w : Put out out' t t' (record_items (read_record old (drop p s))) = rw part-from at q in
      rw n
      record {
        inside = next_on old s left p m.inside h d;
        room = rw d (let r = m.room in let x = w.ends in let l = put-long w in omega (arith, listing_step old s left p h));
        putting = putting_on (record_items (read_record old (drop p s))) _ m.putting (rw d (first_record old record_items s left p h)) w;
      }

  pub pass_end : left ≡ 0 → Put out₀ out to t whole
  pass_end h = putting_end m.putting (no_record old record_items s left p h)
