use native.Mathlib.Omega.{arith}
use Rattle.explain_numbers.proofs.Laws.{place-memory, place-register}
use Rattle.explain_numbers.proofs.place.Goals as goal

pub overflow_add-result : goal.overflow_add-result
overflow_add-result c = let k = c.requires c.if-x-lt-REGISTERS_FROM.true in omega arith

pub returns-then-x-lt-REGISTERS_FROM : goal.returns-then-x-lt-REGISTERS_FROM
returns-then-x-lt-REGISTERS_FROM c = place-memory _ _ c.if-x-lt-REGISTERS_FROM.true

pub returns-else-x-lt-REGISTERS_FROM : goal.returns-else-x-lt-REGISTERS_FROM
returns-else-x-lt-REGISTERS_FROM c = place-register _ _ (omega arith)
