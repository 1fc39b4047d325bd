-- A thread call handed an index: document 02, request 4. It tests 27 and then 29 once, between 14 and 25.
use Rattle.std.specs.Prelude.{ℕ, ◌≡◌, cond, not, List, eqb, length}
use Rattle.stackmap.specs.Verdict.{need}
use Rattle.stackmap.specs.Section.{is_old}
use Rattle.stackmap.specs.Check.{section_check}
use Rattle.questions.specs.Questions.{ask}
use Rattle.index.specs.Index.{index_of, same}
use Rattle.moves.specs.declared.Move.{Move}
use Rattle.moves.specs.Table.{table_right}
use Rattle.moves.specs.Settle.{refused_move}
use Rattle.relocate.specs.Restore.{Restore, allowed}
use Rattle.relocate.specs.Plan.{image_right}
use Rattle.thread.specs.Thread.{Thread, thread_answer, thread_image, thread_registers}

module _ (R : Restore) (im index : List ℕ) where
  -- 1 to 9, 33, 13, 14, 27, 29, and then what the call without an index gives, whose 1 to 9, 33, 13 and 14 have passed: 25, the frames, 26
  unfoldable pub thread_by_index_answer : Thread → Move
  thread_by_index_answer t =
      ask refused_move
      (need (allowed R t.machine) (refused_move 33 0)
      (need (image_right R.first (length im)) (refused_move 13 0)
      (need (table_right R.olds R.news) (refused_move 14 0)
      (need (not (is_old R.section)) (refused_move 27 0)
      (need (same index (index_of R.section)) (refused_move 29 0)
      (thread_answer R im t))))))
      (section_check R.section)

  -- the image that the call without an index leaves, or the image as lent
  unfoldable pub thread_by_index_image : Thread → List ℕ
  thread_by_index_image t = cond (eqb (thread_by_index_answer t).number 0) (thread_image R im t) im

  -- the registers that the call without an index leaves, or the registers as lent
  unfoldable pub thread_by_index_registers : Thread → List ℕ
  thread_by_index_registers t = cond (eqb (thread_by_index_answer t).number 0) (thread_registers R im t) t.registers

  -- an answer, and the image and the registers that are left, are those of the call
  pub record ThreadsByIndex (t : Thread) (r : Move) (after registers : List ℕ) : Type 0 where
    pub answer_is : r ≡ thread_by_index_answer t
    pub image_is : after ≡ thread_by_index_image t
    pub registers_is : registers ≡ thread_by_index_registers t
