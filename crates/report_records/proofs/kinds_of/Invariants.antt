use Prim.Native.Nat.{◌+◌, ◌*◌, ◌-◌}
use Rattle.stackmap.specs.Layout.{location_size}
use Rattle.report_records.proofs.Kindred.{Counting}
use Rattle.report_records.proofs.kinds_of.Given as goal

abbrev pub invariant-loop-i : goal.invariant-loop-i
invariant-loop-i l = Counting l.old l.s l.count (16 + location_size l.old * l.i) (l.count - l.i) l.kinds
