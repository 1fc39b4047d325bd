use Prim.Native.Nat.{◌+◌}
use native.Mathlib.Omega.{arith}
use Rattle.relocate_glance.proofs.Laws.{location_fits, pair_is}
use Rattle.relocate_glance.proofs.are_slots.Goals as goal

pub returns-then-is_slot : goal.returns-then-is_slot
returns-then-is_slot c = λ h. pair_is _ _ _ _ c.requires.1 c.requires.2 (c.is_slot.ensures c.if-is_slot.true) (c.is_slot-then-is_slot.ensures h)

pub overflow_mul-base : goal.overflow_mul-base
overflow_mul-base c = omega (arith, location_fits _ _ c.args.j c.requires.1 (omega arith) c.requires.0)

pub overflow_add-base-2 : goal.overflow_add-base-2
overflow_add-base-2 c = omega (arith, location_fits _ _ c.args.j c.requires.1 (omega arith) c.requires.0)

pub is_slot-requires : goal.is_slot-requires
is_slot-requires c = omega (arith, location_fits _ _ c.args.j c.requires.1 (omega arith) c.requires.0)

pub overflow_add-base-then-is_slot : goal.overflow_add-base-then-is_slot
overflow_add-base-then-is_slot c = omega (arith, location_fits _ _ c.args.j c.requires.1 (omega arith) c.requires.0)

pub is_slot-requires-then-is_slot : goal.is_slot-requires-then-is_slot
is_slot-requires-then-is_slot c = omega (arith, location_fits _ _ (c.args.j + 1) c.requires.1 c.requires.2 c.requires.0)
