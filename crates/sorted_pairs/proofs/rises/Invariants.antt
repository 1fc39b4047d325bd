use Rattle.sorted_pairs.specs.Pairs.{Rising}
use Rattle.sorted_pairs.proofs.rises.Given as goal

abbrev pub invariant-loop-i : goal.invariant-loop-i
invariant-loop-i l = Rising l.list l.i
