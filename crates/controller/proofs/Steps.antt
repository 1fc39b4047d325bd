-- The controller's answer, and what it leaves, by the verdict on the profile.
use Prim.Native.Nat.{ℕ}
use mathlib.Core.Path.{◌≡◌, ◌∙◌}
use mathlib.Core.List.{List}
use Rattle.stackmap.specs.Verdict.{Valid, Refused}
use Rattle.questions.specs.Questions.{ask}
use Rattle.moves.specs.declared.Move.{Move}
use Rattle.moves.specs.Settle.{refused_move}
use Rattle.relocate.specs.Restore.{Restore}
use Rattle.relocate.specs.Stopped.{Stopped}
use Rattle.relocate.specs.Code.{Relocates}
use Rattle.thread.specs.Thread.{Thread}
use Rattle.thread.specs.Code.{Threads}
use Rattle.controller.specs.Profile.{profile_check}
use Rattle.controller.specs.Controller.{controller_answer, controller_image, controller_registers, controller_thread_answer, controller_thread_image, controller_thread_registers}
use Rattle.controller.specs.Kept.{Controls, ControlsThread}

module _ (R : Restore) (im : List ℕ) (st : Stopped) where
  pub control_refused : {n p : ℕ} {r : Move} → profile_check st.frame.machine R.section ≡ Refused n p → r ≡ refused_move n p → Controls R im st r im st.registers
  unfolding controller_answer controller_image controller_registers ask
  control_refused h e = record { answer_is = e ∙ rw h; image_is = rw h; registers_is = rw h }

  pub control_base : {e : ℕ} {r : Move} {after rs : List ℕ} → profile_check st.frame.machine R.section ≡ Valid e → Relocates R im st r after rs → Controls R im st r after rs
  unfolding controller_answer controller_image controller_registers ask
  control_base h m = record { answer_is = m.answer_is ∙ rw h; image_is = m.image_is ∙ rw h; registers_is = m.registers_is ∙ rw h }

module _ (R : Restore) (im : List ℕ) (t : Thread) where
  pub thread-refused : {n p : ℕ} {r : Move} → profile_check t.machine R.section ≡ Refused n p → r ≡ refused_move n p → ControlsThread R im t r im t.registers
  unfolding controller_thread_answer controller_thread_image controller_thread_registers ask
  thread-refused h e = record { answer_is = e ∙ rw h; image_is = rw h; registers_is = rw h }

  pub thread-base : {e : ℕ} {r : Move} {after rs : List ℕ} → profile_check t.machine R.section ≡ Valid e → Threads R im t r after rs → ControlsThread R im t r after rs
  unfolding controller_thread_answer controller_thread_image controller_thread_registers ask
  thread-base h m = record { answer_is = m.answer_is ∙ rw h; image_is = m.image_is ∙ rw h; registers_is = m.registers_is ∙ rw h }
