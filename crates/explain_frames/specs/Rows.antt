-- Why, for all slots of a thread at once: the rows of all frames, in list order.
use Rattle.std.specs.Prelude.{ℕ, suc, List, [], ◌∷◌, ◌++◌}
use Rattle.moves.specs.declared.Move.{Move}
use Rattle.relocate.specs.Restore.{Restore}
use Rattle.relocate.specs.Stopped.{Stopped}
use Rattle.thread.specs.Thread.{Thread, frames_of, thread_answer}
use Rattle.explain.specs.Rows.{rows_of, rows_answer, rows_list}

-- frame by frame; the first of these has the position k
unfoldable pub thread_rows : Restore → List ℕ → ℕ → List Stopped → List ℕ
thread_rows R im k [] = []
thread_rows R im k (f ∷ fs) = rows_of R im f k ++ thread_rows R im (suc k) fs

-- the refusal of the thread's call first; then 24 where the lent list is too short; else how many numbers are written
abbrev pub explain_thread : Restore → List ℕ → Thread → List ℕ → Move
explain_thread R im t lent = rows_answer (thread_answer R im t) (thread_rows R im 0 (frames_of t)) lent

-- the list with the rows at its start; as lent on a refusal
abbrev pub explain_thread_list : Restore → List ℕ → Thread → List ℕ → List ℕ
explain_thread_list R im t lent = rows_list (thread_answer R im t) (thread_rows R im 0 (frames_of t)) lent
