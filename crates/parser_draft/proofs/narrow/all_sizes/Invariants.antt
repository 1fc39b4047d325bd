use Prim.Native.Nat.{◌-◌, ◌≤◌}
use mathlib.Core.Path.{◌≡◌}
use lib.ListN.{length}
use Rattle.listing.specs.Listing.{all_small_sizes}
use Rattle.parser_items.specs.Survey.{records_from}
use Rattle.parser_draft.proofs.narrow.all_sizes.Given as goal

abbrev pub invariant-loop : goal.invariant-loop
invariant-loop l = (l.at ≤ length l.l) × (length (records_from l.l l.at) ≡ l.records - l.counter) × (all_small_sizes (records_from l.l l.from) l.from ≡ all_small_sizes (records_from l.l l.at) l.at)
