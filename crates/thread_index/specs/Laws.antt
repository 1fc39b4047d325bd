-- With the right index a thread answers, and leaves image and registers, as without one; a section of version 1 has no index.
use Rattle.std.specs.Prelude.{ℕ, ◌≡◌, false, List}
use Rattle.stackmap.specs.Section.{is_old}
use Rattle.index.specs.Index.{index_of}
use Rattle.relocate.specs.Restore.{Restore}
use Rattle.thread.specs.Thread.{Thread, thread_answer, thread_image, thread_registers}
use Rattle.thread_index.specs.ByIndex.{thread_by_index_answer, thread_by_index_image, thread_by_index_registers}

pub record IndexMoves : Type 0 where
  pub same_answer : (R : Restore) (im : List ℕ) (ns : Thread) → is_old R.section ≡ false
      → thread_by_index_answer R im (index_of R.section) ns ≡ thread_answer R im ns
  pub same_image : (R : Restore) (im : List ℕ) (ns : Thread) → is_old R.section ≡ false
      → thread_by_index_image R im (index_of R.section) ns ≡ thread_image R im ns
  pub same_registers : (R : Restore) (im : List ℕ) (ns : Thread) → is_old R.section ≡ false
      → thread_by_index_registers R im (index_of R.section) ns ≡ thread_registers R im ns
