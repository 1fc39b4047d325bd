use mathlib.Core.Path.{refl}
use native.Mathlib.Omega.{arith}
use borrow.Author.Tests.{eq-eqb, ne_eqb}
use Rattle.report_totals.proofs.unknown_size.Goals as goal

pub returns-then-size-eq-STACK_SIZE_UNKNOWN : goal.returns-then-size-eq-STACK_SIZE_UNKNOWN
returns-then-size-eq-STACK_SIZE_UNKNOWN c = rw (eq-eqb _ _ c.if-size-eq-STACK_SIZE_UNKNOWN.true) (refl, omega arith)

pub returns : goal.returns
returns c = rw (ne_eqb _ _ c.if-size-eq-STACK_SIZE_UNKNOWN.false) (refl, omega arith)
