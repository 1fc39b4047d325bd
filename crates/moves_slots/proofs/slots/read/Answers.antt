use native.Mathlib.Omega.{arith}
use mathlib.Core.Path.{◌∙◌}
use Rattle.moves.proofs.Numbers.{read-memory, read-register}
use Rattle.moves_slots.proofs.slots.read.Goals as goal

pub u64_at-requires : goal.u64_at-requires
u64_at-requires c = c.requires.in_window c.if-slot-lt-REGISTERS_FROM.true

pub returns-then-slot-lt-REGISTERS_FROM : goal.returns-then-slot-lt-REGISTERS_FROM
returns-then-slot-lt-REGISTERS_FROM c = c.u64_at.ensures ∙ read-memory _ _ _ c.if-slot-lt-REGISTERS_FROM.true

pub bounds-registers-number : goal.bounds-registers-number
bounds-registers-number c = omega (arith, c.requires.in_list c.if-slot-lt-REGISTERS_FROM.false)

pub returns : goal.returns
returns c = read-register _ _ _ c.if-slot-lt-REGISTERS_FROM.false
