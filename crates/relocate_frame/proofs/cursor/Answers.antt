use native.Mathlib.Omega.{arith}
use Rattle.relocate.specs.Stopped.{cursor}
use Rattle.relocate_frame.proofs.Stages.{frame_below, stack-below}
use Rattle.relocate_frame.proofs.cursor.Goals as goal

pub returns : goal.returns
unfolding cursor
returns c = rw (c.frame_pointer.ensures, c.stack_pointer.ensures)

pub overflow_cast-result : goal.overflow_cast-result
overflow_cast-result c = let h = frame_below c.args.frame.machine in omega (arith, c.frame_pointer.ensures)

pub offset_bounds-registers-frame_pointer : goal.offset_bounds-registers-frame_pointer
offset_bounds-registers-frame_pointer c = let h = frame_below c.args.frame.machine in omega (arith, c.frame_pointer.ensures)

pub bounds-registers-frame_pointer : goal.bounds-registers-frame_pointer
bounds-registers-frame_pointer c = let h = frame_below c.args.frame.machine in omega (arith, c.frame_pointer.ensures, c.requires)

pub overflow_cast-result-2 : goal.overflow_cast-result-2
overflow_cast-result-2 c = let h = stack-below c.args.frame.machine in omega (arith, c.stack_pointer.ensures)

pub offset_bounds-registers-stack_pointer : goal.offset_bounds-registers-stack_pointer
offset_bounds-registers-stack_pointer c = let h = stack-below c.args.frame.machine in omega (arith, c.stack_pointer.ensures)

pub bounds-registers-stack_pointer : goal.bounds-registers-stack_pointer
bounds-registers-stack_pointer c = let h = stack-below c.args.frame.machine in omega (arith, c.stack_pointer.ensures, c.requires)
