-- What a machine's number does.
use Rattle.std.specs.Prelude.{ℕ, ◌≡◌, List}
use Rattle.stackmap.specs.Check.{section_check}
use Rattle.questions.specs.Questions.{ask}
use Rattle.moves.specs.declared.Move.{Move}
use Rattle.moves.specs.Settle.{refused_move}
use Rattle.editions_settings.specs.Under.{under}
use Rattle.restores.specs.Restores.{Request}
use Rattle.restores.specs.Moves.{Numbered}
use Rattle.restores_thread.specs.Threads.{NumberedThread}
use Rattle.controller_editions.specs.Under.{controller_answer_under, controller_image_under, controller_registers_under, controller_thread_answer_under, controller_thread_image_under, controller_thread_registers_under}

-- 31, the section's own refusal, or 50 at 0
abbrev pub no_machine : Request → Move
no_machine Q = under Q.store Q.edition (refused_move 31 0) (λ settings. ask refused_move (refused_move 50 0) (section_check Q.section))

-- So it is for every number but 0, of a frame and of a thread, and nothing is changed.
pub record OtherMachines : Type 0 where
  pub of_frame : (Q : Request) (im : List ℕ) (g : Numbered) → (g.machine ≡ 0 → ⊥)
      → (controller_answer_under Q im g ≡ no_machine Q) × (controller_image_under Q im g ≡ im) × (controller_registers_under Q im g ≡ g.registers)
  pub of_thread : (Q : Request) (im : List ℕ) (t : NumberedThread) → (t.machine ≡ 0 → ⊥)
      → (controller_thread_answer_under Q im t ≡ no_machine Q) × (controller_thread_image_under Q im t ≡ im) × (controller_thread_registers_under Q im t ≡ t.registers)
