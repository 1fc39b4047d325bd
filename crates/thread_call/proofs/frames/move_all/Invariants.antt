use Rattle.relocate.specs.Restore.{restore}
use Rattle.thread_call.proofs.Moving.{Moving}
use Rattle.thread_call.proofs.frames.move_all.Given as goal

abbrev pub invariant-loop-next : goal.invariant-loop-next
invariant-loop-next l = Moving (restore l.s l.olds l.news l.first l.settings) l.initial.image l.machine l.frames l.initial.registers l.count l.next l.image l.registers
