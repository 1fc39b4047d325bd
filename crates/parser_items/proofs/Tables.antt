-- What is read from a listing's items, by what was counted in them.
use Prim.Native.Nat.{ℕ, ◌*◌}
use mathlib.Core.Path.{◌≡◌}
use mathlib.Core.List.{List}
use mathlib.Core.Bool.{Bool}
use Rattle.stackmap.specs.Fields.{many}
use Rattle.stackmap.specs.Section.{Section}
use Rattle.listing.specs.Listing.{listed_constant, records_begin, read_items}
use Rattle.parser_items.specs.Count.{TablesCounted}
use Rattle.parser_items.specs.Survey.{functions_of, records_from, records_after}

module _ {l : List ℕ} {functions constants : ℕ} (t : TablesCounted l functions constants) where
  pub begins : records_begin l ≡ records_after l functions constants
  begins = rw (← t.constants_are, ← t.functions_are)

  -- the section that is read
  abbrev pub listed : Bool → Section
  listed old =
      record {
        old = old;
        functions = functions_of l functions;
        constants = many listed_constant 9 constants l (25 * functions);
        records = records_from l (records_after l functions constants);
      }

  pub reads : (old : Bool) → read_items l old ≡ listed old
  unfolding read_items
  reads old = rw (← t.constants_are, ← t.functions_are)
