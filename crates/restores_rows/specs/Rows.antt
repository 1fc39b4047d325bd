-- Why, for all slots of a frame or of a thread at once, under the edition that the move names.
use Rattle.std.specs.Prelude.{ℕ, List}
use Rattle.moves.specs.declared.Move.{Move}
use Rattle.moves.specs.Settle.{refused_move}
use Rattle.explain.specs.Rows.{explain_frame, explain_frame_list}
use Rattle.explain_frames.specs.Rows.{explain_thread, explain_thread_list}
use Rattle.restores.specs.Restores.{Request, by_edition, left_by_edition}
use Rattle.restores.specs.Moves.{Numbered, stopped_of}
use Rattle.restores_thread.specs.Threads.{NumberedThread, thread_by}

-- refused by 31, 1 to 9 or 33 as the move is; and else what the restore with the edition's settings gives
abbrev pub explain_frame_under : Request → List ℕ → Numbered → List ℕ → Move
explain_frame_under Q im g lent = by_edition Q g.machine refused_move (λ R. explain_frame R im (stopped_of g) lent)

-- and the list that it leaves
abbrev pub explain_frame_list_under : Request → List ℕ → Numbered → List ℕ → List ℕ
explain_frame_list_under Q im g lent = left_by_edition Q g.machine lent (λ R. explain_frame_list R im (stopped_of g) lent)

-- the same of a thread
abbrev pub explain_thread_under : Request → List ℕ → NumberedThread → List ℕ → Move
explain_thread_under Q im t lent = by_edition Q t.machine refused_move (λ R. explain_thread R im (thread_by t) lent)

abbrev pub explain_thread_list_under : Request → List ℕ → NumberedThread → List ℕ → List ℕ
explain_thread_list_under Q im t lent = left_by_edition Q t.machine lent (λ R. explain_thread_list R im (thread_by t) lent)
