use native.Mathlib.Omega.{arith}
use Rattle.explain_numbers.proofs.Laws.{sort_memory, sort_register}
use Rattle.explain_numbers.proofs.sort.Goals as goal

pub returns-then-x-lt-REGISTERS_FROM : goal.returns-then-x-lt-REGISTERS_FROM
returns-then-x-lt-REGISTERS_FROM c = sort_memory _ c.if-x-lt-REGISTERS_FROM.true

pub returns-else-x-lt-REGISTERS_FROM : goal.returns-else-x-lt-REGISTERS_FROM
returns-else-x-lt-REGISTERS_FROM c = sort_register _ (omega arith)
