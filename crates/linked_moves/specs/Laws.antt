-- What is shown of a thread's call over a linked section.
use Rattle.std.specs.Prelude.{ℕ, ◌≡◌, false, List}
use Rattle.stackmap.specs.Section.{is_old}
use Rattle.stackmap.specs.Check.{Accepted}
use Rattle.relocate.specs.Restore.{Restore}
use Rattle.thread.specs.Thread.{Thread, thread_answer, thread_image, thread_registers}
use Rattle.linked_moves.specs.Thread.{linked_answer, linked_image, linked_registers}

-- 1. On an accepted section of version 3, which is one map, the call is the thread's call on that section.
pub record SameCall (R : Restore) (im : List ℕ) (t : Thread) : Type 0 where
  pub same_answer : linked_answer R im t ≡ thread_answer R im t
  pub same_image : linked_image R im t ≡ thread_image R im t
  pub same_registers : linked_registers R im t ≡ thread_registers R im t

abbrev pub OneMap : Type 0
OneMap = (R : Restore) (im : List ℕ) (t : Thread) → Accepted R.section → is_old R.section ≡ false → SameCall R im t

-- 2. A refused call changes nothing.
abbrev pub OrNone : Type 0
OrNone =
    (R : Restore) (im : List ℕ) (t : Thread) → ((linked_answer R im t).number ≡ 0 → ⊥)
    → (linked_image R im t ≡ im) × (linked_registers R im t ≡ t.registers)
