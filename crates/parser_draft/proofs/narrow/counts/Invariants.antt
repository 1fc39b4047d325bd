use Prim.Native.Nat.{◌*◌, ◌-◌}
use mathlib.Core.Path.{◌≡◌}
use Rattle.stackmap.specs.Fields.{many}
use Rattle.listing.specs.Listing.{listed_function, no_counts}
use Rattle.parser_items.specs.Survey.{functions_of}
use Rattle.parser_draft.proofs.narrow.counts.Given as goal

abbrev pub invariant-loop-i : goal.invariant-loop-i
invariant-loop-i l = no_counts (functions_of l.l l.functions) 0 ≡ no_counts (many listed_function 25 (l.functions - l.i) l.l (25 * l.i)) (25 * l.i)
