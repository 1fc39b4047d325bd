-- The move of a whole thread over a linked section by the edition that it names.
use Rattle.std.specs.Prelude.{ℕ, cond, List}
use Rattle.questions.specs.Questions.{ask}
use Rattle.moves.specs.declared.Move.{Move}
use Rattle.moves.specs.Settle.{refused_move}
use Rattle.linked_search.specs.Check.{linked_check}
use Rattle.linked_moves.specs.Thread.{linked_answer, linked_image, linked_registers}
use Rattle.editions_settings.specs.Under.{under}
use Rattle.editions_settings.specs.Machine.{machine_known}
use Rattle.restores.specs.Restores.{Request, with_settings, left_by_edition}
use Rattle.restores_thread.specs.Threads.{NumberedThread, thread_by}

module _ (Q : Request) (im : List ℕ) (t : NumberedThread) where
  -- 31; a number that is no machine's is 33, directly after the maps' refusals and 27; and else the order of the call without an edition
  abbrev pub linked_answer_under : Move
  linked_answer_under =
      under Q.store Q.edition (refused_move 31 0)
      (λ settings. cond (machine_known t.machine) (linked_answer (with_settings Q settings) im (thread_by t))
      (ask refused_move (refused_move 33 0) (linked_check Q.section)))

  abbrev pub linked_image_under : List ℕ
  linked_image_under = left_by_edition Q t.machine im (λ R. linked_image R im (thread_by t))

  abbrev pub linked_registers_under : List ℕ
  linked_registers_under = left_by_edition Q t.machine t.registers (λ R. linked_registers R im (thread_by t))
