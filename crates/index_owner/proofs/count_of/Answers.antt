use native.Mathlib.Omega.{arith}
use Rattle.index_owner.proofs.Laws.{before_step, room}
use Rattle.index_owner.proofs.Laws.{before_step}
use Rattle.index_owner.proofs.count_of.Goals as goal

pub overflow_mul-function : goal.overflow_mul-function
overflow_mul-function c = let h = room c.args.s.now c.requires.0 c.requires.1 c.args.function c.requires.2 in omega arith

pub overflow_add-function : goal.overflow_add-function
overflow_add-function c = let h = room c.args.s.now c.requires.0 c.requires.1 c.args.function c.requires.2 in omega arith

pub overflow_add-function-2 : goal.overflow_add-function-2
overflow_add-function-2 c = let h = room c.args.s.now c.requires.0 c.requires.1 c.args.function c.requires.2 in omega arith

pub u64_at-requires : goal.u64_at-requires
u64_at-requires c = let h = room c.args.s.now c.requires.0 c.requires.1 c.args.function c.requires.2 in omega arith

pub returns : goal.returns
returns c = rw c.u64_at.ensures (before_step c.args.s.now c.args.function c.requires.1 c.requires.2)
