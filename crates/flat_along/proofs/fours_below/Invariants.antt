use Prim.Native.Nat.{◌+◌, ◌*◌}
use lib.Dec.{ltb}
use lib.ListN.{get_or}
use Rattle.flat.specs.Steps.{Testing}
use Rattle.flat_along.proofs.fours_below.Given as goal

abbrev pub invariant-loop-q : goal.invariant-loop-q
invariant-loop-q l = Testing (λ k. ltb (get_or l.s (l.at + l.step * k) 0) l.limit) l.n (4 * l.q)
