-- The controller's moves and threads: 1 to 9, then 50, then 33 and the rest as the base gives them.
-- What it accepts, it moves exactly as the base does.
use Rattle.std.specs.Prelude.{ℕ, List}
use Rattle.questions.specs.Questions.{ask}
use Rattle.moves.specs.declared.Move.{Move}
use Rattle.moves.specs.Settle.{refused_move}
use Rattle.relocate.specs.Restore.{Restore}
use Rattle.relocate.specs.Stopped.{Stopped}
use Rattle.relocate.specs.Relocation.{answer, moved, moved_registers}
use Rattle.thread.specs.Thread.{Thread, thread_answer, thread_image, thread_registers}
use Rattle.controller.specs.Profile.{profile_check}

module _ (R : Restore) (im : List ℕ) where
  -- a frame: the profile's refusal, or the base's answer
  unfoldable pub controller_answer : Stopped → Move
  controller_answer st = ask refused_move (answer R im st) (profile_check st.frame.machine R.section)

  -- the image and the registers that it leaves: as lent, or as the base leaves them
  unfoldable pub controller_image : Stopped → List ℕ
  controller_image st = ask (λ n p. im) (moved R im st) (profile_check st.frame.machine R.section)

  unfoldable pub controller_registers : Stopped → List ℕ
  controller_registers st = ask (λ n p. st.registers) (moved_registers R im st) (profile_check st.frame.machine R.section)

  -- a thread: the same, with the refusals of the base's thread
  unfoldable pub controller_thread_answer : Thread → Move
  controller_thread_answer t = ask refused_move (thread_answer R im t) (profile_check t.machine R.section)

  unfoldable pub controller_thread_image : Thread → List ℕ
  controller_thread_image t = ask (λ n p. im) (thread_image R im t) (profile_check t.machine R.section)

  unfoldable pub controller_thread_registers : Thread → List ℕ
  controller_thread_registers t = ask (λ n p. t.registers) (thread_registers R im t) (profile_check t.machine R.section)
