-- Every machine number but 0 is 50 at 0, after 31 and the section's own refusals.
use Prim.Native.Nat.{ℕ}
use mathlib.Core.Path.{◌≡◌, refl, ◌∙◌}
use mathlib.Core.Bool.{Bool, true, false, not, ◌&&◌}
use mathlib.Core.Option.{Option, none, some}
use mathlib.Core.List.{List}
use borrow.Author.Tests.{ne_eqb}
use Rattle.stackmap.specs.Verdict.{Verdict}
use Rattle.stackmap.specs.Verdict.{Valid, Refused}
use Rattle.stackmap.specs.Verdict.{must, chain}
use Rattle.stackmap.specs.Section.{is_old}
use Rattle.stackmap.specs.Check.{section_check}
use Rattle.questions.specs.Questions.{ask}
use Rattle.moves.specs.Settle.{refused_move}
use Rattle.editions.specs.declared.Settings as kept
use Rattle.editions.specs.Store.{look}
use Rattle.relocate.specs.declared.Settings.{Settings}
use Rattle.relocate.specs.Restore.{same_machine}
use Rattle.relocate.specs.Relocation.{answer, moved, moved_registers}
use Rattle.thread.specs.Thread.{thread_answer, thread_image, thread_registers}
use Rattle.editions_settings.specs.Machine.{machine_of}
use Rattle.editions_settings.specs.Under.{by_found, under}
use Rattle.restores.specs.Restores.{with_settings}
use Rattle.restores.specs.Moves.{stopped_of}
use Rattle.restores_thread.specs.Threads.{thread_by}
use Rattle.controller.specs.Profile.{profile_check}
use Rattle.controller.specs.Controller.{controller_answer, controller_image, controller_registers, controller_thread_answer, controller_thread_image, controller_thread_registers}
use Rattle.controller_editions.specs.Laws.{OtherMachines}

-- what is given under an edition, where it is the same for all settings
under_all : {A : Type 0} (o : Option kept.Settings) (a : A) (k k' : Settings → A) → ((x : Settings) → k x ≡ k' x) → by_found o a k ≡ by_found o a k'
under_all none a k k' h = refl
under_all (some x) a k k' h = h _

under_lent : {A : Type 0} (o : Option kept.Settings) (a : A) (k : Settings → A) → ((x : Settings) → k x ≡ a) → by_found o a k ≡ a
under_lent none a k h = refl
under_lent (some x) a k h = h _

-- what another machine's profile gives
other-chain : {A : Type 0} (refused : ℕ → ℕ → A) (k : A) (b : Bool) (v w : Verdict)
    → ask refused k (chain v (must (b && false) 50 0 w)) ≡ ask refused (refused 50 0) v
unfolding ask chain must
other-chain refused k true (Valid e) w = refl
other-chain refused k false (Valid e) w = refl
other-chain refused k b (Refused n p) w = refl

other_profile : {A : Type 0} (refused : ℕ → ℕ → A) (k : A) (s : List ℕ) (n : ℕ) → (n ≡ 0 → ⊥)
    → ask refused k (profile_check (machine_of n) s) ≡ ask refused (refused 50 0) (section_check s)
unfolding profile_check same_machine
other_profile refused k s n h = rw (ne_eqb n 0 h) (other-chain refused k (not (is_old s)) (section_check s) _)

ask-same : {A : Type 0} (a : A) (v : Verdict) → ask (λ n p. a) a v ≡ a
unfolding ask
ask-same a (Valid e) = refl
ask-same a (Refused n p) = refl

pub other_machines : OtherMachines
unfolding under controller_answer controller_image controller_registers controller_thread_answer controller_thread_image controller_thread_registers
other_machines =
    record {
      of_frame = λ Q im g h. (
        under_all (look Q.edition Q.store.slots) (refused_move 31 0) _ _ (λ x. other_profile refused_move (answer (with_settings Q x) im (stopped_of g)) Q.section g.machine h),
        under_lent (look Q.edition Q.store.slots) im _ (λ x. other_profile (λ n p. im) (moved (with_settings Q x) im (stopped_of g)) Q.section g.machine h ∙ ask-same im _),
        under_lent (look Q.edition Q.store.slots) g.registers _ (λ x. other_profile (λ n p. g.registers) (moved_registers (with_settings Q x) im (stopped_of g)) Q.section g.machine h ∙ ask-same g.registers _),
      );
      of_thread = λ Q im t h. (
        under_all (look Q.edition Q.store.slots) (refused_move 31 0) _ _ (λ x. other_profile refused_move (thread_answer (with_settings Q x) im (thread_by t)) Q.section t.machine h),
        under_lent (look Q.edition Q.store.slots) im _ (λ x. other_profile (λ n p. im) (thread_image (with_settings Q x) im (thread_by t)) Q.section t.machine h ∙ ask-same im _),
        under_lent (look Q.edition Q.store.slots) t.registers _ (λ x. other_profile (λ n p. t.registers) (thread_registers (with_settings Q x) im (thread_by t)) Q.section t.machine h ∙ ask-same t.registers _),
      );
    }
