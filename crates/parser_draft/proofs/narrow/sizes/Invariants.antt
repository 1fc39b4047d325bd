use Prim.Native.Nat.{◌+◌, ◌*◌, ◌-◌}
use mathlib.Core.Path.{◌≡◌}
use Rattle.stackmap.specs.Fields.{many}
use Rattle.listing.specs.Listing.{listed_location, small_sizes}
use Rattle.parser_draft.proofs.narrow.sizes.Given as goal

abbrev pub invariant-loop-i : goal.invariant-loop-i
invariant-loop-i l = small_sizes (many listed_location 10 l.n l.l l.at) l.at ≡ small_sizes (many listed_location 10 (l.n - l.i) l.l (l.at + 10 * l.i)) (l.at + 10 * l.i)
