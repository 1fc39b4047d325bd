-- What stands in the record at a place of the section.
use Prim.Native.Nat.{ℕ, ◌+◌, ◌*◌, ◌≤◌, ◌<◌}
use mathlib.Core.Path.{◌≡◌, ap}
use mathlib.Core.Option.{some}
use mathlib.Core.List.{List}
use native.Mathlib.Omega.{arith}
use lib.ListN.{length, drop, get_elem?}
use Rattle.stackmap.specs.Layout.{location_size}
use Rattle.stackmap.specs.Section.{Location, is_old, num_locations, record_length}
use Rattle.stackmap.proofs.Parts as parts
use Rattle.stackmap.proofs.Steps.{times_most, location_least}
use Rattle.questions.specs.declared.LocationAnswer.{LocationAnswer}
use Rattle.questions.specs.Questions.{this_location}
use Rattle.relocate.specs.Statepoint.{no_location, location_at}
use Rattle.relocate.specs.Code.{record_of, RecordInside, Paired}

module _ (s : List ℕ) (at : ℕ) where
  pub locations-inside : RecordInside s at → at + 16 + 8 * num_locations (drop at s) ≤ length s
  unfolding record_length
  locations-inside h =
      let i = h.inside in
      let t = times_most 8 (location_size (is_old s)) (num_locations (drop at s)) (location_least (is_old s)) in
      omega arith

  pub location_inside : RecordInside s at → (j : ℕ) → j < num_locations (drop at s) → at + 16 + 8 * j + 8 ≤ length s
  location_inside h j l = let i = locations-inside h in omega arith

  -- the section's header is inside
  pub header_there : RecordInside s at → 16 ≤ length s
  header_there h = let t = h.tables in omega arith

  pub count-locations : length (record_of s at).locations ≡ num_locations (drop at s)
  count-locations = parts.count-locations (is_old s) (drop at s)

  pub location_there : (j : ℕ) → j < num_locations (drop at s) → get_elem? (record_of s at).locations j ≡ some (location_at (record_of s at) j)
  location_there j h = parts.get_elem_some no_location (record_of s at).locations j (rw count-locations h)

-- the base of pair number p is inside
pub pair_inside : {s : List ℕ} {at start count : ℕ} → Paired s at start count → (p : ℕ) → p < count → at + 16 + 8 * (start + 2 * p) + 8 ≤ length s
pair_inside {s} {at} {start} w p h = location_inside s at w.stands (start + 2 * p) (omega (arith, w.room))

-- what the reader says of a location's kind
module _ (a : LocationAnswer) (pool : List ℕ) (l : Location) (e : a ≡ this_location pool l) where
  pub offset-said : a.offset ≡ l.offset
  offset-said = ap (λ (x : LocationAnswer). x.offset) e
