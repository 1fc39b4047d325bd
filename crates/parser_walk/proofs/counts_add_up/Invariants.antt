use Prim.Native.Nat.{◌*◌, ◌-◌}
use Rattle.stackmap.specs.Section.{counted}
use Rattle.stackmap.proofs.Steps.{Adding}
use Rattle.listing.specs.Listing.{listed_function}
use Rattle.parser_items.specs.Survey.{functions_of}
use Rattle.parser_walk.proofs.counts_add_up.Given as goal

abbrev pub invariant-loop-i : goal.invariant-loop-i
invariant-loop-i l = Adding listed_function 25 l.l (counted (functions_of l.l l.functions)) l.total (25 * l.i) (l.functions - l.i) l.rest
