use native.Mathlib.Omega.{arith}
use Rattle.explain_pointers.proofs.Searching.{number-register, number-none}
use Rattle.explain_pointers.proofs.numbers.in_register.Goals as goal

pub returns-then-number : goal.returns-then-number
returns-then-number c = number-register _ _ (omega arith)

pub returns : goal.returns
returns c = number-none _ _ (omega arith)
