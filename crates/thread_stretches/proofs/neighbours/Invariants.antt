use Rattle.thread_stretches.specs.Listed.{Clear}
use Rattle.thread_stretches.proofs.neighbours.Given as goal

abbrev pub invariant-loop-next : goal.invariant-loop-next
invariant-loop-next l = Clear l.pairs l.next l.ends
