-- The controller's calls by the edition that they name: 31, 1 to 9, 50, and then 33 and the rest. The machine is a number; any but 0 is none that
-- the profile takes (50 at 0), whether it is another machine's or no machine's.
use Rattle.std.specs.Prelude.{ℕ, List}
use Rattle.moves.specs.declared.Move.{Move}
use Rattle.moves.specs.Settle.{refused_move}
use Rattle.editions_settings.specs.Under.{under}
use Rattle.restores.specs.Restores.{Request, with_settings}
use Rattle.restores.specs.Moves.{Numbered, stopped_of}
use Rattle.restores_thread.specs.Threads.{NumberedThread, thread_by}
use Rattle.controller.specs.Controller.{controller_answer, controller_image, controller_registers, controller_thread_answer, controller_thread_image, controller_thread_registers}

module _ (Q : Request) (im : List ℕ) where
  abbrev pub controller_answer_under : Numbered → Move
  controller_answer_under g = under Q.store Q.edition (refused_move 31 0) (λ settings. controller_answer (with_settings Q settings) im (stopped_of g))

  -- the image and the registers that it leaves; 31 leaves them as lent
  abbrev pub controller_image_under : Numbered → List ℕ
  controller_image_under g = under Q.store Q.edition im (λ settings. controller_image (with_settings Q settings) im (stopped_of g))

  abbrev pub controller_registers_under : Numbered → List ℕ
  controller_registers_under g =
      under Q.store Q.edition g.registers (λ settings. controller_registers (with_settings Q settings) im (stopped_of g))

  -- a whole thread
  abbrev pub controller_thread_answer_under : NumberedThread → Move
  controller_thread_answer_under t =
      under Q.store Q.edition (refused_move 31 0) (λ settings. controller_thread_answer (with_settings Q settings) im (thread_by t))

  abbrev pub controller_thread_image_under : NumberedThread → List ℕ
  controller_thread_image_under t = under Q.store Q.edition im (λ settings. controller_thread_image (with_settings Q settings) im (thread_by t))

  abbrev pub controller_thread_registers_under : NumberedThread → List ℕ
  controller_thread_registers_under t =
      under Q.store Q.edition t.registers (λ settings. controller_thread_registers (with_settings Q settings) im (thread_by t))
