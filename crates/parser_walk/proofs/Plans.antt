-- The section that a listing is to become, by what was counted in its items.
use Prim.Native.Nat.{ℕ, ◌+◌, ◌*◌, ◌≤◌}
use mathlib.Core.Path.{◌≡◌, ap}
use mathlib.Core.List.{List}
use mathlib.Core.Bool.{Bool, true}
use native.Mathlib.Omega.{arith}
use lib.Dec.{leb}
use Rattle.stackmap.specs.Layout.{section_most, function_size, num_records_at}
use Rattle.stackmap.specs.Verdict.{must}
use Rattle.stackmap.specs.Fields.{size}
use Rattle.stackmap.specs.Section.{section_fields, entries_of}
use Rattle.stackmap.specs.Check.{counts_right}
use Rattle.stackmap.specs.Fault.{section_fault}
use Rattle.stackmap.proofs.Fields.{length-many}
use Rattle.stackmap.proofs.Back.{section-size}
use Rattle.stackmap.proofs.Within.{counts-held}
use Rattle.listing.specs.Listing.{read_items}
use Rattle.parser_items.specs.Survey.{functions_of, records_after, Planned}
use Rattle.parser_fault.specs.Walk.{Walkable}
use Rattle.parser_items.proofs.Tables.{reads}
use Rattle.parser_walk.proofs.Walking.{whole}

module _ {l : List ℕ} {old : Bool} {functions constants records bytes : ℕ} (p : Planned l old functions constants records bytes) where
  -- where the records begin in the section, and where it ends
  abbrev pub place : ℕ
  place = 16 + function_size old * functions + 8 * constants

  abbrev pub end : ℕ
  end = 16 + function_size old * functions + 8 * constants + bytes

  pub planned-size : size (section_fields (read_items l old)) ≡ end
  planned-size = rw (reads p.tables old, section-size, p.sized) (simp length-many)

  -- the walk over the records may begin
  pub planned_walk : end ≤ section_most → counts_right old (functions_of l functions) records ≡ true
      → Walkable l old functions (records_after l functions constants) records place end
  planned_walk small adds =
      let i = p.tables.inside in
      record {
        functions_inside = omega arith;
        inside = i;
        adds_up = counts-held old _ _ adds;
        listed = p.counted;
        ends = ap (λ (n : ℕ). place + n) p.sized;
        small = small;
      }

  pub planned-fault : section_fault (read_items l old)
      ≡ must (leb end section_most) 1 0
      (must (counts_right old (functions_of l functions) records) 5 num_records_at
      (whole l old functions constants (records_after l functions constants) records place end))
  unfolding section_fault entries_of
  planned-fault = rw (planned-size, reads p.tables old, p.counted) (simp length-many)
