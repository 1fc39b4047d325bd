use Prim.Native.Nat.{◌+◌, ◌-◌}
use mathlib.Core.Path.{◌≡◌}
use Rattle.stackmap.specs.Record.{zeros}
use Rattle.stackmap_parts.proofs.zero_bytes.Given as goal

abbrev pub invariant-loop-i : goal.invariant-loop-i
invariant-loop-i l = zeros l.count l.s l.at ≡ zeros (l.count - l.i) l.s (l.at + l.i)
