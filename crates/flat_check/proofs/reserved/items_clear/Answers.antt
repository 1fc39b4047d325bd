use native.Mathlib.Omega.{arith}
use Rattle.flat_check.proofs.Accept.{right_arranged}
use Rattle.flat_check.proofs.reserved.items_clear.Goals as goal

pub each_below-requires : goal.each_below-requires
each_below-requires c = let a = right_arranged _ c.requires.1 in omega (arith, c.offset-at.ensures, c.num_locations-n.ensures)

pub each_below-requires-then-each_below : goal.each_below-requires-then-each_below
each_below-requires-then-each_below c = let a = right_arranged _ c.requires.1 in omega (arith, c.offset-next.ensures, c.num_live_outs-m.ensures)
