use mathlib.Core.Path.{sym, ap, ◌∙◌}
use Rattle.stackmap.specs.Verdict.{verdict, chain}
use Rattle.stackmap.proofs.Passed.{passed}
use Rattle.stackmap.proofs.Within.{header_held}
use Rattle.stackmap_tables.proofs.tables.begin.Goals as goal

-- The header, then the tables.

pub returns-in_err-check_header : goal.returns-in_err-check_header
unfolding chain
returns-in_err-check_header c = rw (← c.check_header.ensures, c.in_err-check_header.was, passed _ _ c.from_residual.ensures.1)

pub tables-requires : goal.tables-requires
tables-requires c = header_held _ _ (sym c.check_header.ensures ∙ ap verdict c.in_ok-check_header.was)

pub returns : goal.returns
unfolding chain
returns c = rw (← c.check_header.ensures, c.in_ok-check_header.was, ← c.tables.ensures)
