-- The listing of an accepted section is at most 25/16 of it: a function of version 1 takes 16 bytes in the section and 25 here.
use Prim.Native.Nat.{ℕ, ◌*◌, ◌≤◌}
use mathlib.Core.Path.{◌≡◌}
use mathlib.Core.Bool.{Bool, true, false}
use mathlib.Core.List.{List, [], ◌∷◌}
use native.Mathlib.Omega.{arith}
use lib.ListN.{length}
use Rattle.stackmap.specs.Verdict.{Valid}
use Rattle.stackmap.specs.Fields.{size, all}
use Rattle.stackmap.specs.Section.{Record, record_fields, read_section}
use Rattle.stackmap.specs.Check.{section_check}
use Rattle.stackmap.proofs.Fields.{size-append}
use Rattle.stackmap.proofs.Back.{record_size_lem, section-size}
use Rattle.stackmap.proofs.Forth.{section-long}
use Rattle.stackmap.proofs.Steps.{times_most, location_least, function-least}
use Rattle.listing.specs.Listing.{record_items, version_length, encode_listing}
use Rattle.listing.proofs.Listing.{items_size, listing_length}

record_short : (old : Bool) (r : Record) → 16 * size (record_items r) ≤ 25 * size (record_fields old r)
record_short old r =
    omega (arith, record_size_lem old r, items_size r, times_most _ _ (length r.locations) (location_least old))

pub records-short : (old : Bool) (rs : List Record) → 16 * size (all record_items rs) ≤ 25 * size (all (record_fields old) rs)
unfolding all size
records-short old [] = omega arith
records-short old (r ∷ rs) =
    rw (size-append (record_items r), size-append (record_fields old r)) (omega (arith, record_short old r, records-short old rs))

version-short : (old : Bool) → version_length old ≤ 2
version-short true = omega arith
version-short false = omega arith

pub listing_short : (s : List ℕ) (e : ℕ) → section_check s ≡ Valid e → 16 * length (encode_listing (read_section s)) ≤ 25 * length s
listing_short s e k =
    let t = read_section s in
    omega (
      arith,
      listing_length t,
      version-short t.old,
      section-size t,
      times_most _ _ (length t.functions) (function-least t.old),
      section-long s e k,
      records-short t.old t.records,
    )
