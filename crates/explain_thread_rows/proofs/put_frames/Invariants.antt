use Rattle.relocate.specs.Restore.{restore}
use Rattle.thread.specs.Thread.{thread_of}
use Rattle.explain_frames.proofs.Going.{Going}
use Rattle.explain_thread_rows.proofs.put_frames.Given as goal

abbrev pub invariant-loop-k : goal.invariant-loop-k
invariant-loop-k l = Going (restore l.s l.olds l.news l.first l.settings) l.image (thread_of l.machine l.frames l.registers) l.count l.initial.rows l.rows l.k l.to
