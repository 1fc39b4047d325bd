use Rattle.moves.specs.Table.{look_up}
use Rattle.moves.specs.Slots.{state}
use Rattle.moves.proofs.Fills.{Renewing}
use Rattle.moves_slots.proofs.renewal.renew.Given as goal

abbrev pub invariant-loop-k : goal.invariant-loop-k
invariant-loop-k l = Renewing (look_up l.olds l.news) (state l.window l.registers) l.live l.derived l.initial.values l.pairs l.k l.values
