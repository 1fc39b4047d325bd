use Prim.Native.Nat.{◌+◌, ◌*◌, ◌-◌}
use mathlib.Core.Path.{◌≡◌}
use Rattle.stackmap.specs.Layout.{location_size}
use Rattle.stackmap.specs.Record.{locations}
use Rattle.stackmap_parts.proofs.each_location.Given as goal

abbrev pub invariant-loop-i : goal.invariant-loop-i
invariant-loop-i l = locations l.old l.count l.s l.constants l.at ≡ locations l.old (l.count - l.i) l.s l.constants (l.at + location_size l.old * l.i)
