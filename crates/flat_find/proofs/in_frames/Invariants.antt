use Rattle.flat_match.proofs.Lookup.{Going}
use Rattle.flat_find.proofs.in_frames.Given as goal

abbrev pub invariant-loop-i : goal.invariant-loop-i
invariant-loop-i l = Going l.s l.address l.i
