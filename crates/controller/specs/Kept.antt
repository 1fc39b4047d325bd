-- For the code alone: nothing here has to be believed.
-- What the controller's walk keeps, and what its functions answer and leave.
use Rattle.std.specs.Prelude.{ℕ, zero, suc, ◌≡◌, cond, List}
use Rattle.std.proofs.Math.Option.{Option, none, some}
use Rattle.stackmap.specs.Section.{Entry, address}
use Rattle.moves.specs.declared.Move.{Move}
use Rattle.relocate.specs.Restore.{Restore}
use Rattle.relocate.specs.Stopped.{Stopped}
use Rattle.thread.specs.Thread.{Thread}
use Rattle.controller.specs.Profile.{keeps}
use Rattle.controller.specs.Controller.{controller_answer, controller_image, controller_registers, controller_thread_answer, controller_thread_image, controller_thread_registers}

-- the last address, while no record has a breach; and then the first that has one
pub data Kept : Type 0 where
  whole : Option ℕ → Kept
  broken : ℕ → Kept

-- one record more
unfoldable pub looked : List ℕ → Entry → Kept → Kept
looked pool e (whole before) = cond (keeps pool before e) (whole (some (address e))) (broken e.number)
looked pool e (broken k) = broken k

abbrev pub breach_of : Kept → Option ℕ
breach_of (whole before) = none
breach_of (broken k) = some k

-- the address of the record before the record `number`, by the last address that the walk has seen
abbrev pub before_of : ℕ → ℕ → Option ℕ
before_of zero last = none
before_of (suc k) last = some last

-- an answer, and the image and the registers that are left, are those of the controller's move, and of its thread
pub record Controls (R : Restore) (im : List ℕ) (f : Stopped) (r : Move) (after registers : List ℕ) : Type 0 where
  pub answer_is : r ≡ controller_answer R im f
  pub image_is : after ≡ controller_image R im f
  pub registers_is : registers ≡ controller_registers R im f

pub record ControlsThread (R : Restore) (im : List ℕ) (t : Thread) (r : Move) (after registers : List ℕ) : Type 0 where
  pub answer_is : r ≡ controller_thread_answer R im t
  pub image_is : after ≡ controller_thread_image R im t
  pub registers_is : registers ≡ controller_thread_registers R im t
