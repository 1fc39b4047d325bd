-- For the code alone: nothing here has to be believed.
-- What the two calls promise.
use Rattle.std.specs.Prelude.{ℕ, ◌≡◌, List}
use Rattle.moves.specs.declared.Move.{Move}
use Rattle.restores.specs.Restores.{Request}
use Rattle.restores.specs.Moves.{Numbered}
use Rattle.restores_thread.specs.Threads.{NumberedThread}
use Rattle.controller_editions.specs.Under.{controller_answer_under, controller_image_under, controller_registers_under, controller_thread_answer_under, controller_thread_image_under, controller_thread_registers_under}

pub record ControlsUnder (Q : Request) (im : List ℕ) (g : Numbered) (r : Move) (after registers : List ℕ) : Type 0 where
  pub answer_is : r ≡ controller_answer_under Q im g
  pub image_is : after ≡ controller_image_under Q im g
  pub registers_is : registers ≡ controller_registers_under Q im g

pub record ControlsThreadUnder (Q : Request) (im : List ℕ) (t : NumberedThread) (r : Move) (after registers : List ℕ) : Type 0 where
  pub answer_is : r ≡ controller_thread_answer_under Q im t
  pub image_is : after ≡ controller_thread_image_under Q im t
  pub registers_is : registers ≡ controller_thread_registers_under Q im t
