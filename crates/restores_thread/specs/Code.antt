-- For the code alone: nothing here has to be believed.
-- What the two calls promise.
use Rattle.std.specs.Prelude.{ℕ, List}
use Rattle.moves.specs.declared.Move.{Move}
use Rattle.thread.specs.Thread.{thread_answer, thread_image, thread_registers}
use Rattle.thread_index.specs.ByIndex.{thread_by_index_answer, thread_by_index_image, thread_by_index_registers}
use Rattle.restores.specs.Restores.{Request}
use Rattle.restores.specs.Code.{Gives}
use Rattle.restores_thread.specs.Threads.{NumberedThread, thread_by}

abbrev pub ThreadsUnder : Request → List ℕ → NumberedThread → Move → List ℕ → List ℕ → Type 0
ThreadsUnder Q im t =
    Gives Q t.machine im t.registers
    (λ R. thread_answer R im (thread_by t)) (λ R. thread_image R im (thread_by t)) (λ R. thread_registers R im (thread_by t))

abbrev pub ByIndexUnder : Request → List ℕ → List ℕ → NumberedThread → Move → List ℕ → List ℕ → Type 0
ByIndexUnder Q im index t =
    Gives Q t.machine im t.registers
    (λ R. thread_by_index_answer R im index (thread_by t))
    (λ R. thread_by_index_image R im index (thread_by t))
    (λ R. thread_by_index_registers R im index (thread_by t))
