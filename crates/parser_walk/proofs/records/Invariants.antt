use Prim.Native.Nat.{◌+◌, ◌-◌}
use Rattle.parser_walk.proofs.Walking.{Walking}
use Rattle.parser_walk.proofs.records.Given as goal

abbrev pub invariant-loop : goal.invariant-loop
invariant-loop l = Walking l.l l.plan.old l.plan.functions l.plan.constants l.from l.plan.records l.place (l.place + l.plan.bytes) l.turn.next l.turn.left (l.plan.records - l.counter) l.at l.to
