use Rattle.flat_keys.specs.Keys.{Filled}
use Rattle.flat_keys.proofs.fill.Given as goal

abbrev pub invariant-loop-j : goal.invariant-loop-j
invariant-loop-j l = Filled l.s l.keys l.j
