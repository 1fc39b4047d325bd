-- For the code alone: nothing here has to be believed.
-- What the call promises.
use Rattle.std.specs.Prelude.{ℕ, ◌≡◌, List}
use Rattle.moves.specs.declared.Move.{Move}
use Rattle.restores.specs.Restores.{Request}
use Rattle.restores_thread.specs.Threads.{NumberedThread}
use Rattle.restores_linked.specs.Linked.{linked_answer_under, linked_image_under, linked_registers_under}

pub record LinkedUnder (Q : Request) (im : List ℕ) (t : NumberedThread) (r : Move) (after registers : List ℕ) : Type 0 where
  pub answer_is : r ≡ linked_answer_under Q im t
  pub image_is : after ≡ linked_image_under Q im t
  pub registers_is : registers ≡ linked_registers_under Q im t
