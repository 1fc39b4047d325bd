use mathlib.Core.Path.{◌≡◌}
use Rattle.moves.specs.Settle.{accepted_move}
use Rattle.relocate.specs.Restore.{restore}
use Rattle.thread.specs.Thread.{thread_of, frames_from, pointers_in}
use Rattle.thread_call.proofs.Judging.{Judging}
use Rattle.thread_call.proofs.frames.judge.Given as goal

abbrev pub invariant-loop-k : goal.invariant-loop-k
invariant-loop-k l = Judging (restore l.s l.olds l.news l.first l.settings) l.initial.image (thread_of l.machine l.frames l.initial.registers) l.count (accepted_move (pointers_in (restore l.s l.olds l.news l.first l.settings) l.initial.image (frames_from (thread_of l.machine l.frames l.initial.registers) l.count 0))) l.k l.sum
    × (l.image ≡ l.initial.image) × (l.registers ≡ l.initial.registers)
