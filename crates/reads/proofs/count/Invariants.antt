use Rattle.reads.proofs.Eight.{Counting}
use Rattle.reads.proofs.count.Given as goal

abbrev pub invariant-loop-at : goal.invariant-loop-at
invariant-loop-at g l = Counting l.s l.number l.places l.found l.at-index
