-- What the call gives at each of its ends.
use Prim.Native.Nat.{ℕ, ◌<◌}
use mathlib.Core.Path.{◌≡◌, sym, ap, subst, ◌∙◌}
use mathlib.Core.Bool.{true, false, cond}
use mathlib.Core.List.{List}
use Rattle.stackmap.specs.Verdict.{Verdict}
use Rattle.questions.specs.Questions.{ask}
use Rattle.moves.specs.declared.Move.{Move}
use Rattle.moves.specs.Settle.{refused_move}
use Rattle.relocate.specs.declared.Machine.{Machine}
use Rattle.relocate.specs.declared.Settings.{Settings}
use Rattle.thread.specs.Thread.{thread_of}
use Rattle.linked_search.specs.Check.{linked_check}
use Rattle.linked_moves.specs.Thread.{linked_answer, linked_image, linked_registers}
use Rattle.linked_call.specs.Code.{LinkedThreads}
use Rattle.editions_settings.specs.declared.NamedSettings.{NamedSettings}
use Rattle.editions_settings.specs.Code.{Names}
use Rattle.editions_settings.specs.Machine.{machine_known, machine_of, left_of}
use Rattle.editions_settings.proofs.Laws.{under-refused, under-found}
use Rattle.restores.specs.Restores.{Request, with_settings}
use Rattle.restores_thread.specs.Threads.{NumberedThread, thread_by}
use Rattle.restores_linked.specs.Code.{LinkedUnder}

module _ (Q : Request) (im : List ℕ) (t : NumberedThread) (n : NamedSettings) (names : Names Q.store Q.edition n) where
  -- what is given with settings
  abbrev answer_with : Settings → Move
  answer_with settings =
      cond (machine_known t.machine) (linked_answer (with_settings Q settings) im (thread_by t)) (ask refused_move (refused_move 33 0) (linked_check Q.section))

  abbrev image_with : Settings → List ℕ
  image_with settings = left_of t.machine im (linked_image (with_settings Q settings) im (thread_by t))

  abbrev registers_with : Settings → List ℕ
  registers_with settings = left_of t.machine t.registers (linked_registers (with_settings Q settings) im (thread_by t))

  pub under_31 : {r : Move} → r ≡ refused_move 31 0 → 0 < n.number → LinkedUnder Q im t r im t.registers
  under_31 is h =
      record {
        answer_is = is ∙ sym (under-refused names h (refused_move 31 0) answer_with);
        image_is = sym (under-refused names h im image_with);
        registers_is = sym (under-refused names h t.registers registers_with);
      }

  pub under_33 : {r : Move} (v : Verdict) → r ≡ ask refused_move (refused_move 33 0) v → v ≡ linked_check Q.section → n.number ≡ 0 → machine_known t.machine ≡ false
      → LinkedUnder Q im t r im t.registers
  under_33 v is checked z unknown =
      record {
        answer_is = is ∙ ap (λ (w : Verdict). ask refused_move (refused_move 33 0) w) checked ∙ sym (under-found names z (refused_move 31 0) answer_with ∙ rw unknown);
        image_is = sym (under-found names z im image_with ∙ rw unknown);
        registers_is = sym (under-found names z t.registers registers_with ∙ rw unknown);
      }

  pub under_moved : {r : Move} {after registers : List ℕ} (m : Machine) → m ≡ machine_of t.machine → n.number ≡ 0 → machine_known t.machine ≡ true
      → LinkedThreads (with_settings Q n.settings) im (thread_of m t.list t.registers) r after registers → LinkedUnder Q im t r after registers
  under_moved {r} {after} {registers} m is z known moves =
      let k : LinkedThreads (with_settings Q n.settings) im (thread_by t) r after registers =
      subst (λ (x : Machine). LinkedThreads (with_settings Q n.settings) im (thread_of x t.list t.registers) r after registers) is moves
      in
      record {
        answer_is = k.answer_is ∙ sym (under-found names z (refused_move 31 0) answer_with ∙ rw known);
        image_is = k.image_is ∙ sym (under-found names z im image_with ∙ rw known);
        registers_is = k.registers_is ∙ sym (under-found names z t.registers registers_with ∙ rw known);
      }
