-- What one record adds.
use Prim.Native.Nat.{ℕ, ◌+◌, ◌*◌, ◌-◌, ◌≤◌}
use mathlib.Core.Path.{◌≡◌, ◌∙◌}
use mathlib.Core.Bool.{Bool, true, false}
use mathlib.Core.List.{List}
use native.Mathlib.Omega.{arith}
use lib.ListN.{length, take, drop, length-drop}
use Rattle.stackmap.specs.Layout.{location_size}
use Rattle.stackmap.specs.Fields.{many}
use Rattle.stackmap.specs.Section.{is_old, num_locations, record_length, read_location, read_record}
use Rattle.stackmap.proofs.Steps.{times_most, location_least}
use Rattle.stackmap.proofs.Within.{part-from}
use Rattle.relocate.specs.Code.{record_of, RecordInside, Paired}
use Rattle.relocate.specs.Statepoint.{is_statepoint}
use Rattle.relocate.proofs.Records.{count-locations}
use Rattle.report.specs.declared.Kinds.{Kinds}
use Rattle.report.specs.Totals.{kinds_of, pairs_of, of_record}
use Rattle.report.specs.Bounds.{KindsMost}
use Rattle.report.proofs.Plus.{kinds-below}
use Rattle.report_records.specs.declared.Counts.{Counts}
use Rattle.report_records.specs.Counts.{as_totals, Most}

-- a record takes more bytes than it has locations
length-least : (old : Bool) (s : List ℕ) → 16 + location_size old * num_locations s ≤ record_length old s
unfolding record_length
length-least old s = omega arith

module _ (s : List ℕ) (at : ℕ) (h : RecordInside s at) {old : Bool} (o : old ≡ is_old s) {n : ℕ} (l : n ≡ length (record_of s at).locations) where
  abbrev part : List ℕ
  part = take (length s - at) (drop at s)

  many-there : n ≡ num_locations (drop at s)
  many-there = l ∙ count-locations s at

  -- its locations are inside its own stretch
  pub locations-there : 16 + location_size old * n ≤ length part
  locations-there =
      let k = length-least (is_old s) (drop at s) in
      let d = length-drop at s in
      rw (part-from, o, many-there) (omega (arith, h.inside))

  few : n + 1 ≤ record_length (is_old s) (drop at s)
  few =
      let k = length-least (is_old s) (drop at s) in
      let m = times_most 8 (location_size (is_old s)) (num_locations (drop at s)) (location_least (is_old s)) in
      rw many-there (omega arith)

  module _ {kinds : Kinds} (e : kinds ≡ kinds_of (many (read_location old) (location_size old) n part 16)) (m : KindsMost n kinds) where
    kinds-there : kinds ≡ kinds_of (record_of s at).locations
    unfolding read_record
    kinds-there = e ∙ rw (part-from, o, many-there)

    kinds-few : KindsMost (record_length (is_old s) (drop at s)) kinds
    kinds-few = kinds-below _ _ _ (let f = few in omega arith) m

    pub statepoint-counts : is_statepoint (record_of s at) ≡ true → {start count : ℕ} → Paired s at start count → {r : Counts}
        → r ≡ record { records = 1; statepoints = 1; pairs = count; kinds = kinds }
        → (as_totals r ≡ of_record (record_of s at)) × Most (record_length (is_old s) (drop at s)) r
    unfolding as_totals of_record pairs_of
    statepoint-counts y {start} {count} p {r} z =
        let f = few in
        rw z (rw (y, p.counted, kinds-there), record { records = omega arith; statepoints = omega arith; pairs = omega (arith, p.room, many-there); kinds = kinds-few })

    pub other-counts : is_statepoint (record_of s at) ≡ false → {r : Counts} → r ≡ record { records = 1; statepoints = 0; pairs = 0; kinds = kinds }
        → (as_totals r ≡ of_record (record_of s at)) × Most (record_length (is_old s) (drop at s)) r
    unfolding as_totals of_record pairs_of
    other-counts y {r} z =
        let f = few in
        rw z (rw (y, kinds-there), record { records = omega arith; statepoints = omega arith; pairs = omega arith; kinds = kinds-few })
