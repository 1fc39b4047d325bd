use Prim.Native.Nat.{◌+◌, ◌*◌, ◌-◌}
use mathlib.Core.Path.{◌≡◌}
use Rattle.stackmap.specs.Record.{live_outs}
use Rattle.stackmap_parts.proofs.all_live_outs.Given as goal

abbrev pub invariant-loop-i : goal.invariant-loop-i
invariant-loop-i l = live_outs l.count l.s l.at ≡ live_outs (l.count - l.i) l.s (l.at + 4 * l.i)
