use Prim.Native.Nat.{◌-◌}
use Rattle.controller_profile.proofs.Looking.{Looking}
use Rattle.controller_profile.proofs.first_breach.Given as goal

-- The walk that looks for the first breach.
abbrev pub invariant-loop-number : goal.invariant-loop-number
invariant-loop-number l = Looking l.s l.turn.next l.turn.left (l.count - l.number) l.number l.p l.last
