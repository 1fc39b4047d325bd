-- The profile of the bench controller: version 3 and AMD64 only, every record a statepoint whose pairs pass 18, record addresses strictly
-- rising, at most 64 records and 16 pointers in each.
use Rattle.std.specs.Prelude.{ℕ, Bool, true, false, cond, not, ◌&&◌, leb, ltb, length}
use Rattle.std.proofs.Math.Option.{Option, none, some}
use mathlib.Core.List.{List, [], ◌∷◌, map, flatten}
use Rattle.stackmap.specs.Verdict.{Verdict}
use Rattle.stackmap.specs.Verdict.{Valid, Refused}
use Rattle.stackmap.specs.Verdict.{must, chain}
use Rattle.stackmap.specs.Section.{Record, Entry, is_old, read_section, address, entries}
use Rattle.stackmap.specs.Check.{section_check}
use Rattle.relocate.specs.declared.Cursor.{Cursor}
use Rattle.relocate.specs.declared.Machine.{Machine}
use Rattle.relocate.specs.declared.Machine.TheVariants.{Amd64}
use Rattle.relocate.specs.Restore.{same_machine}
use Rattle.relocate.specs.Statepoint.{is_statepoint, Pair, pairs, right_form, pointers_of}

-- at most 64 records, so that number 64 is a breach; and 16 pointers in each
abbrev pub records_most : ℕ
records_most = 64

abbrev pub pointers_most : ℕ
pointers_most = 16

-- the test holds of every pair
abbrev pub all_of : (Pair → Bool) → List Pair → Bool
all_of good [] = true
all_of good (p ∷ ps) = good p && all_of good ps

-- the pairs of a version 3 record pass 18 on AMD64
unfoldable pub passes18 : List ℕ → Record → Bool
passes18 pool r = all_of (right_form Amd64 false pool) (pairs r)

-- The pointers of a record, null pairs one each, as in 17. How many they are is the same for every frame, so that one of zeros will do.

abbrev pub some_frame : Cursor
some_frame = record { machine = Amd64; address = 0; function = 0; fp = 0; sp = 0 }

unfoldable pub pointer_count : List ℕ → Record → ℕ
pointer_count pool r = length (flatten (map (pointers_of false pool some_frame) (pairs r)))

-- above the address of the record before, if there is one
abbrev pub above : Option ℕ → ℕ → Bool
above none a = true
above (some b) a = ltb b a

-- a record keeps the profile; `before` is the address of the record before it
unfoldable pub keeps : List ℕ → Option ℕ → Entry → Bool
keeps pool before e =
    ltb e.number records_most
    && (above before (address e)
    && (is_statepoint e.body
    && (passes18 pool e.body
    && leb (pointer_count pool e.body) pointers_most)))

-- the number of the first record that does not
unfoldable pub first_breach : List ℕ → Option ℕ → List Entry → Option ℕ
first_breach pool before [] = none
first_breach pool before (e ∷ es) = cond (keeps pool before e) (first_breach pool (some (address e)) es) (some e.number)

-- 50 at that record, or a valid section
abbrev pub at_breach : ℕ → Option ℕ → Verdict
at_breach end none = Valid end
at_breach end (some k) = Refused 50 k

-- the section's own refusals; 50 at 0 for the version or the machine, tested before the records; then 50 at the first record with a breach
unfoldable pub profile_check : Machine → List ℕ → Verdict
profile_check m s =
    chain (section_check s)
    (must (not (is_old s) && same_machine m Amd64) 50 0
    (at_breach (length s) (first_breach (read_section s).constants none (entries s))))
