-- The refusal of a section's bytes, said of the section as data: 1, 5, 8, 6 or 7, or its length. These are the refusals that
-- bytes written from data can get. A place in a record is counted from the record's first byte.
use Rattle.std.specs.Prelude.{ℕ, ◌+◌, ◌≡◌, Bool, true, length, leb}
use mathlib.Core.List.{List, [], ◌∷◌, Memᴰ}
use Rattle.stackmap.specs.Verdict.{Verdict}
use Rattle.stackmap.specs.Verdict.{Valid}
use Rattle.stackmap.specs.Layout.{section_most, record_head_size, location_size, kind_least, kind_most, num_records_at}
use Rattle.stackmap.specs.Verdict.{must, chain, shift}
use Rattle.stackmap.specs.Fields.{size}
use Rattle.stackmap.specs.Section.{Function, Location, Section, record_fields, section_fields, Encodable, Entry, address, entries_of}
use Rattle.stackmap.specs.Record.{pool_check, address_right}
use Rattle.stackmap.specs.Check.{counts_right}

unfoldable pub location_fault : Bool → ℕ → Location → ℕ → Verdict
location_fault old constants l at =
    must (leb kind_least l.kind) 6 at
    (must (leb l.kind kind_most) 6 at
    (pool_check l.kind l.offset constants at (at + location_size old)))

unfoldable pub locations_fault : Bool → ℕ → List Location → ℕ → Verdict
locations_fault old constants [] at = Valid at
locations_fault old constants (l ∷ ls) at =
    chain (location_fault old constants l at) (locations_fault old constants ls (at + location_size old))

unfoldable pub entry_fault : Bool → ℕ → Entry → Verdict
entry_fault old constants e =
    must (address_right old (address e)) 8 0
    (chain (locations_fault old constants e.body.locations record_head_size) (Valid (size (record_fields old e.body))))

unfoldable pub entries_fault : Bool → ℕ → List Entry → ℕ → Verdict
entries_fault old constants [] end = Valid end
entries_fault old constants (e ∷ es) end =
    chain (shift e.first (entry_fault old constants e)) (entries_fault old constants es end)

unfoldable pub section_fault : Section → Verdict
section_fault t =
    must (leb (size (section_fields t)) section_most) 1 0
    (must (counts_right t.old t.functions (length t.records)) 5 num_records_at
    (entries_fault t.old (length t.constants) (entries_of t) (size (section_fields t))))

-- what an accepted section's data is: its numbers fit, version 1 states no record counts, and it has no fault
pub record WellFormed (t : Section) : Type 0 where
  pub fits : Encodable t
  pub no_counts : t.old ≡ true → (f : Function) → Memᴰ f t.functions → f.count ≡ 0
  pub no_fault : section_fault t ≡ Valid (size (section_fields t))
