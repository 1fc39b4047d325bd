-- The controller's calls under an edition, after its settings are read.
use Prim.Native.Nat.{ℕ, ◌<◌}
use mathlib.Core.Path.{◌≡◌, sym, subst, ◌∙◌}
use mathlib.Core.List.{List}
use Rattle.moves.specs.declared.Move.{Move}
use Rattle.moves.specs.Settle.{refused_move}
use Rattle.relocate.specs.declared.Machine.{Machine}
use Rattle.relocate.specs.Stopped.{stopped}
use Rattle.thread.specs.Thread.{thread_of}
use Rattle.editions_settings.specs.declared.NamedSettings.{NamedSettings}
use Rattle.editions_settings.specs.Code.{Names}
use Rattle.editions_settings.specs.Machine.{machine_of}
use Rattle.editions_settings.proofs.Laws.{under-refused, under-found}
use Rattle.restores.specs.Restores.{Request, with_settings}
use Rattle.restores.specs.Moves.{Numbered, stopped_of}
use Rattle.restores_thread.specs.Threads.{NumberedThread, thread_by}
use Rattle.controller.specs.Controller.{controller_answer, controller_image, controller_registers, controller_thread_answer, controller_thread_image, controller_thread_registers}
use Rattle.controller.specs.Kept.{Controls, ControlsThread}
use Rattle.controller_editions.specs.Code.{ControlsUnder, ControlsThreadUnder}

module _ (Q : Request) (im : List ℕ) (n : NamedSettings) (names : Names Q.store Q.edition n) where
  module _ (g : Numbered) where
    pub frame_31 : {r : Move} → 0 < n.number → r ≡ refused_move 31 0 → ControlsUnder Q im g r im g.registers
    frame_31 h e =
        record {
          answer_is = e ∙ sym (under-refused names h (refused_move 31 0) (λ settings. controller_answer (with_settings Q settings) im (stopped_of g)));
          image_is = sym (under-refused names h im (λ settings. controller_image (with_settings Q settings) im (stopped_of g)));
          registers_is = sym (under-refused names h g.registers (λ settings. controller_registers (with_settings Q settings) im (stopped_of g)));
        }

    pub frame_on : (m : Machine) {r : Move} {after rs : List ℕ} → n.number ≡ 0 → m ≡ machine_of g.machine
        → Controls (with_settings Q n.settings) im (stopped (record { machine = m; address = g.address; function = g.function }) g.registers) r after rs
        → ControlsUnder Q im g r after rs
    frame_on m {r} {after} {rs} z e h =
        let c : Controls (with_settings Q n.settings) im (stopped_of g) r after rs =
        subst (λ (x : Machine). Controls (with_settings Q n.settings) im (stopped (record { machine = x; address = g.address; function = g.function }) g.registers) r after rs) e h in
        record {
          answer_is = c.answer_is ∙ sym (under-found names z (refused_move 31 0) (λ settings. controller_answer (with_settings Q settings) im (stopped_of g)));
          image_is = c.image_is ∙ sym (under-found names z im (λ settings. controller_image (with_settings Q settings) im (stopped_of g)));
          registers_is = c.registers_is ∙ sym (under-found names z g.registers (λ settings. controller_registers (with_settings Q settings) im (stopped_of g)));
        }

  module _ (t : NumberedThread) where
    pub thread_31 : {r : Move} → 0 < n.number → r ≡ refused_move 31 0 → ControlsThreadUnder Q im t r im t.registers
    thread_31 h e =
        record {
          answer_is = e ∙ sym (under-refused names h (refused_move 31 0) (λ settings. controller_thread_answer (with_settings Q settings) im (thread_by t)));
          image_is = sym (under-refused names h im (λ settings. controller_thread_image (with_settings Q settings) im (thread_by t)));
          registers_is = sym (under-refused names h t.registers (λ settings. controller_thread_registers (with_settings Q settings) im (thread_by t)));
        }

    pub thread_on : (m : Machine) {r : Move} {after rs : List ℕ} → n.number ≡ 0 → m ≡ machine_of t.machine
        → ControlsThread (with_settings Q n.settings) im (thread_of m t.list t.registers) r after rs → ControlsThreadUnder Q im t r after rs
    thread_on m {r} {after} {rs} z e h =
        let c : ControlsThread (with_settings Q n.settings) im (thread_by t) r after rs =
        subst (λ (x : Machine). ControlsThread (with_settings Q n.settings) im (thread_of x t.list t.registers) r after rs) e h in
        record {
          answer_is = c.answer_is ∙ sym (under-found names z (refused_move 31 0) (λ settings. controller_thread_answer (with_settings Q settings) im (thread_by t)));
          image_is = c.image_is ∙ sym (under-found names z im (λ settings. controller_thread_image (with_settings Q settings) im (thread_by t)));
          registers_is = c.registers_is ∙ sym (under-found names z t.registers (λ settings. controller_thread_registers (with_settings Q settings) im (thread_by t)));
        }
