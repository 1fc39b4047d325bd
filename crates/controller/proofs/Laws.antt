-- The laws of the controller's moves and threads, from the base's.
use Prim.Native.Nat.{ℕ, ◌≤◌}
use mathlib.Core.Path.{◌≡◌, refl, sym, ◌∙◌}
use mathlib.Core.Bool.{true}
use mathlib.Core.Logic.{◌⊎◌, inl, inr}
use mathlib.Core.List.{List}
use native.Mathlib.Omega.{arith}
use Rattle.stackmap.specs.Verdict.{Verdict}
use Rattle.stackmap.specs.Verdict.{Valid, Refused}
use Rattle.questions.specs.Questions.{ask}
use Rattle.moves.specs.declared.Move.{Move}
use Rattle.moves.specs.Settle.{refused_move}
use Rattle.relocate.specs.Restore.{Restore}
use Rattle.relocate.specs.Relocation.{answer, moved, moved_registers}
use Rattle.relocate.proofs.Demand as base
use Rattle.relocate.proofs.Consequences as consequences
use Rattle.thread.specs.Thread.{Thread, thread_answer, thread_image, thread_registers}
use Rattle.thread.proofs.OneInstant as threads
use Rattle.controller.specs.Profile.{profile_check}
use Rattle.controller.specs.Controller.{controller_answer, controller_image, controller_registers, controller_thread_answer, controller_thread_image, controller_thread_registers}
use Rattle.controller.specs.Lists.{is_valid, in_profile, taken}
use Rattle.controller.specs.Laws.{AsBase, Excluded, NeverGives, ControllerDemand3, ControllerOrderFree, SameThread, ControllerOneInstant, ControllerLaws}
use Rattle.controller.proofs.First.{profile_first}
use Rattle.controller.proofs.Profiles.{profiled}
use Rattle.controller.proofs.Own.{Own, own}
use Rattle.controller.proofs.Excluded.{other, base_excluded}
use Rattle.controller.proofs.Lists.{ask-valid, taken-answer, taken-image, taken-registers, final-taken, plain-taken, taken-disjoint, taken_perm}
use Rattle.controller.proofs.Worked.{worked_profile}

-- an accepted answer is no refusal of the controller's own
only-valid : (m : Move) (v : Verdict) → Own v → (ask refused_move m v).number ≡ 0 → (is_valid v ≡ true) × (m.number ≡ 0)
unfolding ask
only-valid m (Valid e) o h = (refl, h)
only-valid m (Refused n p) o h = absurd (let z = o.0 in omega arith)

-- a refusal of any kind leaves what was lent
or_lent : (m : Move) (im left rs left-rs : List ℕ) (v : Verdict) → ((m.number ≡ 0 → ⊥) → (left ≡ im) × (left-rs ≡ rs)) → ((ask refused_move m v).number ≡ 0 → ⊥)
    → (ask (λ n p. im) left v ≡ im) × (ask (λ n p. rs) left-rs v ≡ rs)
unfolding ask
or_lent m im left rs left-rs (Valid e) f h = f h
or_lent m im left rs left-rs (Refused n p) f h = (refl, refl)

as_base : AsBase
unfolding controller_answer controller_image controller_registers
as_base =
    record {
      same_answer = λ R im f h. taken-answer R f h im;
      same_image = λ R im f h. taken-image R f h im;
      same_registers = λ R im f h. taken-registers R f h im;
      only_taken = λ R im f h. (only-valid (answer R im f) (profile_check f.frame.machine R.section) (own f.frame.machine R.section) h).0;
      untouched = λ R im f h.
          or_lent (answer R im f) im (moved R im f) f.registers (moved_registers R im f) (profile_check f.frame.machine R.section) (consequences.untouched R im f) h;
    }

never_gives : NeverGives
unfolding controller_answer ask
never_gives R im f = go (profile_check f.frame.machine R.section) refl (own f.frame.machine R.section)
  where
    go : (v : Verdict) → profile_check f.frame.machine R.section ≡ v → Own v → Excluded R (ask refused_move (answer R im f) v).number
    go (Valid e) h o = base_excluded R im f (profiled f.frame.machine R.section h)
    go (Refused n p) h o = pick o.1
      where
        pick : (n ≤ 9) ⊎ (n ≡ 50) → Excluded R n
        pick (inl l) = other R n (λ q. omega arith) (λ q. omega arith) (λ q. omega arith) (λ q. omega arith)
        pick (inr l) = other R n (λ q. omega arith) (λ q. omega arith) (λ q. omega arith) (λ q. omega arith)

demand3 : ControllerDemand3
demand3 R im fs d =
    let h = base.demand3 R im (taken R.section fs) (taken-disjoint R.section fs d) in
    let p = plain-taken R im fs im h.plain h.plain_registers in
    record { plain = p.plain; plain_registers = p.plain_registers; image_is = final-taken R fs im; bytes_are = h }

order_free : ControllerOrderFree
order_free R im fs gs p d =
    let o = base.order_free R im (taken R.section fs) (taken R.section gs) (taken_perm R.section p) (taken-disjoint R.section fs d) in
    (demand3 R im gs (base.disjoint_perm R.section p d), final-taken R fs im ∙ o.same_image ∙ sym (final-taken R gs im))

same_call : (R : Restore) (im : List ℕ) (t : Thread) → in_profile R.section t.machine ≡ true → SameThread R im t
unfolding controller_thread_answer controller_thread_image controller_thread_registers
same_call R im t h =
    record {
      same_answer = ask-valid refused_move (thread_answer R im t) _ h;
      same_image = ask-valid (λ n p. im) (thread_image R im t) _ h;
      same_registers = ask-valid (λ n p. t.registers) (thread_registers R im t) _ h;
    }

thread-taken : (R : Restore) (im : List ℕ) (t : Thread) → (controller_thread_answer R im t).number ≡ 0
    → (in_profile R.section t.machine ≡ true) × ((thread_answer R im t).number ≡ 0)
unfolding controller_thread_answer
thread-taken R im t h = only-valid (thread_answer R im t) (profile_check t.machine R.section) (own t.machine R.section) h

thread_lent : (R : Restore) (im : List ℕ) (t : Thread) → ((controller_thread_answer R im t).number ≡ 0 → ⊥)
    → (controller_thread_image R im t ≡ im) × (controller_thread_registers R im t ≡ t.registers)
unfolding controller_thread_answer controller_thread_image controller_thread_registers
thread_lent R im t h =
    or_lent (thread_answer R im t) im (thread_image R im t) t.registers (thread_registers R im t) (profile_check t.machine R.section) (threads.or_none R im t) h

one_instant : ControllerOneInstant
one_instant =
    record {
      same_call = same_call;
      accepted_only = λ R im t h. let k = thread-taken R im t h in (k.0, threads.accepted_only R im t k.1);
      frame_by_frame = λ R im t h m. (same_call R im t h, threads.frame_by_frame R im t m);
      or_none = thread_lent;
      any_order = λ R im t t' h e l p.
          let k = thread-taken R im t h in
          (same_call R im t k.0, same_call R im t' (rw e k.0), threads.any_order R im t t' k.1 e l p);
    }

pub controller_laws : ControllerLaws
controller_laws =
    record {
      profile_first = profile_first;
      as_base = as_base;
      never_gives = never_gives;
      demand3 = demand3;
      order_free = order_free;
      one_instant = one_instant;
      worked = worked_profile;
    }
