use native.Mathlib.Omega.{arith}
use Rattle.moves.proofs.Numbers.{put-memory, put-register}
use Rattle.moves_slots.proofs.slots.put.Goals as goal

pub put_u64-requires : goal.put_u64-requires
put_u64-requires c = c.requires.in_window c.if-slot-lt-REGISTERS_FROM.true

pub returns-then-slot-lt-REGISTERS_FROM : goal.returns-then-slot-lt-REGISTERS_FROM
returns-then-slot-lt-REGISTERS_FROM c = put-memory _ _ _ _ _ c.if-slot-lt-REGISTERS_FROM.true c.put_u64.ensures

pub bounds-registers-slot : goal.bounds-registers-slot
bounds-registers-slot c = omega (arith, c.requires.in_list c.if-slot-lt-REGISTERS_FROM.false)

pub returns-else-slot-lt-REGISTERS_FROM : goal.returns-else-slot-lt-REGISTERS_FROM
returns-else-slot-lt-REGISTERS_FROM c = put-register _ _ _ _ c.if-slot-lt-REGISTERS_FROM.false
