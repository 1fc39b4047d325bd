-- For the code alone: nothing here has to be believed.
-- What the walk over the records keeps, and what it is of the totals.
use Rattle.std.specs.Prelude.{ℕ, ◌+◌, ◌≤◌}
use Rattle.stackmap.specs.Section.{Entry}
use Rattle.report.specs.declared.Totals.{Totals}
use Rattle.report.specs.Totals.{plus_kinds, plus, of_entry}
use Rattle.report.specs.Bounds.{KindsMost}
use Rattle.report_records.specs.declared.Counts.{Counts}

-- the totals that records alone add to
unfoldable pub as_totals : Counts → Totals
as_totals c =
    record {
      sections = 0;
      refused = 0;
      functions = 0;
      records = c.records;
      statepoints = c.statepoints;
      pairs = c.pairs;
      kinds = c.kinds;
      stack = 0;
      unknown = 0;
    }

unfoldable pub grown : Counts → Counts → Counts
grown a b =
    record {
      records = a.records + b.records;
      statepoints = a.statepoints + b.statepoints;
      pairs = a.pairs + b.pairs;
      kinds = plus_kinds a.kinds b.kinds;
    }

pub record Most (n : ℕ) (c : Counts) : Type 0 where
  pub records : c.records ≤ n
  pub statepoints : c.statepoints ≤ n
  pub pairs : c.pairs ≤ n
  pub kinds : KindsMost n c.kinds

-- one record more
unfoldable pub with_entry : Entry → Totals → Totals
with_entry e h = plus h (of_entry e)
