use Rattle.moves.specs.Settle.{accepted_move}
use Rattle.relocate.specs.Restore.{restore}
use Rattle.thread.specs.Thread.{thread_of, frames_from, pointers_in}
use Rattle.thread_call.proofs.Judging.{Judging}
use Rattle.thread_judge.proofs.judge_frames.Given as goal

abbrev pub invariant-loop-k : goal.invariant-loop-k
invariant-loop-k l = Judging (restore l.s l.olds l.news l.first l.settings) l.image (thread_of l.machine l.frames l.registers) l.count (accepted_move (pointers_in (restore l.s l.olds l.news l.first l.settings) l.image (frames_from (thread_of l.machine l.frames l.registers) l.count 0))) l.k l.sum
