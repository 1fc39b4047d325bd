use Prim.Native.Nat.{◌-◌, ◌≤◌, max}
use mathlib.Core.Path.{◌≡◌}
use Rattle.flat.specs.Places.{greatest, registers_used}
use Rattle.flat.proofs.offsets.registers_used.Given as goal

abbrev pub invariant-loop-i : goal.invariant-loop-i
invariant-loop-i l = (l.most ≤ 131070) × (greatest (registers_used l.s l.frames) 0 l.n ≡ max l.most (greatest (registers_used l.s l.frames) l.i (l.n - l.i)))
