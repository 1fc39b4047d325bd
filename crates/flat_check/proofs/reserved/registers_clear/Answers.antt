use native.Mathlib.Omega.{arith}
use Rattle.flat_check.proofs.Accept.{right_arranged}
use Rattle.flat_check.proofs.reserved.registers_clear.Goals as goal

pub overflow_mul-end : goal.overflow_mul-end
overflow_mul-end c = let a = right_arranged _ c.requires.1 in omega (arith, c.requires.2, c.offset-at.ensures, c.offset-next.ensures)

pub overflow_add-end : goal.overflow_add-end
overflow_add-end c = let a = right_arranged _ c.requires.1 in omega (arith, c.requires.2, c.offset-at.ensures, c.offset-next.ensures)

pub each_below-requires : goal.each_below-requires
each_below-requires c = let a = right_arranged _ c.requires.1 in omega (arith, c.requires.2, c.offset-at.ensures, c.offset-next.ensures)

pub overflow_sub-next : goal.overflow_sub-next
overflow_sub-next c = let a = right_arranged _ c.requires.1 in omega (arith, c.requires.2, c.offset-at.ensures, c.offset-next.ensures)

pub each_below-requires-then-each_below : goal.each_below-requires-then-each_below
each_below-requires-then-each_below c = let a = right_arranged _ c.requires.1 in omega (arith, c.requires.2, c.offset-at.ensures, c.offset-next.ensures)
