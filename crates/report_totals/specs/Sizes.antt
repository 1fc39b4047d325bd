-- For the code alone: nothing here has to be believed.
-- What is counted of a section before it is added.
use Rattle.std.specs.Prelude.{ℕ, ◌<◌, ◌≡◌, List, Option, None, Some}
use Rattle.stackmap.specs.Section.{num_functions, read_section}
use Rattle.report.specs.declared.Totals.{Totals}
use Rattle.report.specs.Totals.{total_most, no_kinds, total, of_function}
use Rattle.report_totals.specs.declared.Stacks.{Stacks}

-- a section without functions and records
abbrev pub one_section : Totals
one_section =
    record { sections = 1; refused = 0; functions = 0; records = 0; statepoints = 0; pairs = 0; kinds = no_kinds; stack = 0; unknown = 0 }

-- n functions, with their stack sizes
unfoldable pub function_totals : ℕ → ℕ → ℕ → Totals
function_totals n known unknown =
    record {
      sections = 0;
      refused = 0;
      functions = n;
      records = 0;
      statepoints = 0;
      pairs = 0;
      kinds = no_kinds;
      stack = known;
      unknown = unknown;
    }

-- the stack sizes of a section's functions, or they pass 2^64 - 1
abbrev pub Stacked : List ℕ → Option Stacks → Type 0
Stacked s (Some r) = total of_function (read_section s).functions ≡ function_totals (num_functions s) r.known r.unknown
Stacked s None = total_most < (total of_function (read_section s).functions).stack

-- what is counted is t, or its stack sizes pass 2^64 - 1
abbrev pub Tallied : Totals → Option Totals → Type 0
Tallied t (Some r) = r ≡ t
Tallied t None = total_most < t.stack
