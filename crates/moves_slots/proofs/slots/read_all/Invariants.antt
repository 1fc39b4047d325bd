use lib.ListN.{get_or}
use Rattle.moves.specs.Slots.{state, read}
use Rattle.moves.specs.Arrays.{slot_of, Filled}
use Rattle.moves_slots.proofs.slots.read_all.Given as goal

abbrev pub invariant-loop-k : goal.invariant-loop-k
invariant-loop-k l = Filled (λ j. read (state l.window l.registers) (slot_of (get_or l.slots j 0))) l.live l.contents l.k
