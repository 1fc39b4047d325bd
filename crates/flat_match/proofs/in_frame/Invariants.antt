use Rattle.flat_match.proofs.Lookup.{Looking}
use Rattle.flat_match.proofs.in_frame.Given as goal

abbrev pub invariant-loop-j : goal.invariant-loop-j
invariant-loop-j l = Looking l.s l.address l.i l.k l.n l.j
