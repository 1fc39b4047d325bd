-- For the code alone: nothing here has to be believed.
-- What the call promises.
use Rattle.std.specs.Prelude.{ℕ, ◌≡◌, List}
use Rattle.moves.specs.declared.Move.{Move}
use Rattle.relocate.specs.Restore.{Restore}
use Rattle.thread.specs.Thread.{Thread}
use Rattle.linked_moves.specs.Thread.{linked_answer, linked_image, linked_registers}

-- an answer, and the image and the registers that are left, are those of the call
pub record LinkedThreads (R : Restore) (im : List ℕ) (t : Thread) (r : Move) (after registers : List ℕ) : Type 0 where
  pub answer_is : r ≡ linked_answer R im t
  pub image_is : after ≡ linked_image R im t
  pub registers_is : registers ≡ linked_registers R im t
