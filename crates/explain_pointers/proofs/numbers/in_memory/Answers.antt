use native.Mathlib.Omega.{arith}
use Rattle.explain_pointers.proofs.Searching.{number-below, number_at, number_past}
use Rattle.explain_pointers.proofs.numbers.in_memory.Goals as goal

pub returns-in-Some : goal.returns-in-Some
returns-in-Some c = let e = c.in-Some.ensures.1 in rw e (number_at _ _ (c.in-Some.ensures.0) (omega arith))

pub returns-in_default : goal.returns-in_default
returns-in_default c = number_past _ _ c.in-Some.ensures.0 (omega arith)

pub returns-in_default-2 : goal.returns-in_default-2
returns-in_default-2 c = number-below _ _ (omega (arith, c.in_default.ensures))
