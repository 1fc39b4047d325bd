use Rattle.relocate.specs.Restore.{restore}
use Rattle.thread.specs.Thread.{thread_of}
use Rattle.linked_moves.specs.Code.{maps_in}
use Rattle.linked_frames.proofs.Judging.{Judging}
use Rattle.linked_frames.proofs.frames.judge.Given as goal

abbrev pub invariant-loop-k : goal.invariant-loop-k
invariant-loop-k l = Judging (restore l.s l.olds l.news l.first l.settings) (maps_in l.s) l.image (thread_of l.machine l.frames l.registers) l.count l.k l.sum
