use Prim.Native.Nat.{◌-◌}
use mathlib.Core.Path.{◌≡◌}
use Rattle.moves.specs.Slots.{state}
use Rattle.moves.specs.Arrays.{puts}
use Rattle.moves_slots.proofs.slots.put_all.Given as goal

abbrev pub invariant-loop-p : goal.invariant-loop-p
invariant-loop-p l =
    puts l.live l.derived l.contents (l.pairs - l.p) l.p (state l.window l.registers)
    ≡ puts l.live l.derived l.contents l.pairs 0 (state l.initial.window l.initial.registers)
