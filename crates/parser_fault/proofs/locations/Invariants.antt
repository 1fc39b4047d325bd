use Prim.Native.Nat.{◌+◌, ◌*◌, ◌-◌}
use mathlib.Core.Path.{◌≡◌}
use Rattle.stackmap.specs.Layout.{location_size}
use Rattle.stackmap.specs.Fields.{many}
use Rattle.stackmap.specs.Fault.{locations_fault}
use Rattle.listing.specs.Listing.{listed_location}
use Rattle.parser_fault.proofs.locations.Given as goal

abbrev pub invariant-loop-i : goal.invariant-loop-i
invariant-loop-i l =
    locations_fault l.plan.old l.plan.constants (many listed_location 10 l.n l.l l.at) l.place
    ≡ locations_fault l.plan.old l.plan.constants (many listed_location 10 (l.n - l.i) l.l (l.at + 10 * l.i)) (l.place + location_size l.plan.old * l.i)
