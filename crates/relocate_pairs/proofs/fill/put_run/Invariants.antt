use Rattle.relocate_pairs.proofs.Held.{Running}
use Rattle.relocate_pairs.proofs.fill.put_run.Given as goal

abbrev pub invariant-loop-next : goal.invariant-loop-next
invariant-loop-next l = Running l.size l.n l.k l.b l.d l.initial.live l.initial.bases l.initial.derived l.live l.bases l.derived l.next
