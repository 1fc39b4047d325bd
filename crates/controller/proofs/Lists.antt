-- Lists of the controller's moves, by the base's moves of the frames that the profile takes.
use Prim.Native.Nat.{ℕ}
use mathlib.Core.Path.{◌≡◌, refl, sym, ap, ◌∙◌}
use mathlib.Core.Bool.{Bool, true, false, cond, true≢false}
use mathlib.Core.Logic.{◌⊎◌, inl, inr}
use mathlib.Core.List.Memᴰ
use mathlib.Core.List.{List, [], ◌∷◌, map, Memᴰ}
use mathlib.Core.List.Permᴰ
use mathlib.Core.List.{Permᴰ}
use Rattle.stackmap.specs.Verdict.{Verdict}
use Rattle.stackmap.specs.Verdict.{Valid, Refused}
use Rattle.questions.specs.Questions.{ask}
use Rattle.moves.specs.Settle.{refused_move}
use Rattle.relocate.specs.Restore.{Restore}
use Rattle.relocate.specs.Stopped.{Stopped}
use Rattle.relocate.specs.Relocation.{answer, moved, moved_registers}
use Rattle.relocate.specs.Lists.{answers, final, final_registers, Disjoint}
use Rattle.controller.specs.Controller.{controller_answer, controller_image, controller_registers}
use Rattle.controller.specs.Lists.{controller_answers, controller_final, controller_final_registers, is_valid, in_profile, taken}

pub ask-valid : {A : Type 0} (refused : ℕ → ℕ → A) (k : A) (v : Verdict) → is_valid v ≡ true → ask refused k v ≡ k
unfolding ask
ask-valid refused k (Valid e) h = refl
ask-valid refused k (Refused n p) h = absurd (true≢false (sym h))

-- a refusal is the same whatever would come after it
ask-refused : {A : Type 0} (refused : ℕ → ℕ → A) (k k' : A) (v : Verdict) → is_valid v ≡ false → ask refused k v ≡ ask refused k' v
unfolding ask
ask-refused refused k k' (Valid e) h = absurd (true≢false h)
ask-refused refused k k' (Refused n p) h = refl

ask_lent : {A : Type 0} (lent k : A) (v : Verdict) → is_valid v ≡ false → ask (λ n p. lent) k v ≡ lent
unfolding ask
ask_lent lent k (Valid e) h = absurd (true≢false h)
ask_lent lent k (Refused n p) h = refl

module _ (R : Restore) (f : Stopped) where
  abbrev mine : Bool
  mine = in_profile R.section f.frame.machine

  -- what the profile takes
  module _ (h : mine ≡ true) (im : List ℕ) where
    pub taken-answer : controller_answer R im f ≡ answer R im f
    unfolding controller_answer
    taken-answer = ask-valid refused_move (answer R im f) _ h

    pub taken-image : controller_image R im f ≡ moved R im f
    unfolding controller_image
    taken-image = ask-valid (λ n p. im) (moved R im f) _ h

    pub taken-registers : controller_registers R im f ≡ moved_registers R im f
    unfolding controller_registers
    taken-registers = ask-valid (λ n p. f.registers) (moved_registers R im f) _ h

  -- and what it doesn't
  module _ (h : mine ≡ false) (im : List ℕ) where
    other-answer : (im' : List ℕ) → controller_answer R im f ≡ controller_answer R im' f
    unfolding controller_answer
    other-answer im' = ask-refused refused_move (answer R im f) (answer R im' f) _ h

    other-image : controller_image R im f ≡ im
    unfolding controller_image
    other-image = ask_lent im (moved R im f) _ h

    other-registers : controller_registers R im f ≡ f.registers
    unfolding controller_registers
    other-registers = ask_lent f.registers (moved_registers R im f) _ h

module _ (R : Restore) where
  abbrev these : List Stopped → List Stopped
  these = taken R.section

  pub final-taken : (fs : List Stopped) (im : List ℕ) → controller_final R fs im ≡ final R (these fs) im
  final-taken [] im = refl
  final-taken (f ∷ fs) im = go (in_profile R.section f.frame.machine) refl (final-taken fs)
    where
      go : (b : Bool) → in_profile R.section f.frame.machine ≡ b → ((cur : List ℕ) → controller_final R fs cur ≡ final R (these fs) cur)
          → controller_final R fs (controller_image R im f) ≡ final R (cond b (f ∷ these fs) (these fs)) im
      go true e ih = rw (taken-image R f e im) (ih (moved R im f))
      go false e ih = rw (other-image R f e im) (ih im)

  -- answers and registers are the plain ones from the image `im`, where those of the frames that are taken are
  pub record Plain (im cur : List ℕ) (fs : List Stopped) : Type 0 where
    pub plain : controller_answers R fs cur ≡ map (controller_answer R im) fs
    pub plain_registers : controller_final_registers R fs cur ≡ map (controller_registers R im) fs

  pub plain-taken : (im : List ℕ) (fs : List Stopped) (cur : List ℕ) → answers R (these fs) cur ≡ map (answer R im) (these fs)
      → final_registers R (these fs) cur ≡ map (moved_registers R im) (these fs) → Plain im cur fs
  plain-taken im [] cur h g = record { plain = refl; plain_registers = refl }
  plain-taken im (f ∷ fs) cur h g = go (in_profile R.section f.frame.machine) refl (plain-taken im fs) h g
    where
      go : (b : Bool) → in_profile R.section f.frame.machine ≡ b
          → ((c : List ℕ) → answers R (these fs) c ≡ map (answer R im) (these fs) → final_registers R (these fs) c ≡ map (moved_registers R im) (these fs) → Plain im c fs)
          → answers R (cond b (f ∷ these fs) (these fs)) cur ≡ map (answer R im) (cond b (f ∷ these fs) (these fs))
          → final_registers R (cond b (f ∷ these fs) (these fs)) cur ≡ map (moved_registers R im) (cond b (f ∷ these fs) (these fs)) → Plain im cur (f ∷ fs)
      go true e ih h g =
          let a : answer R cur f ≡ answer R im f = cc in
          let r : moved_registers R cur f ≡ moved_registers R im f = cc in
          let hs : answers R (these fs) (moved R cur f) ≡ map (answer R im) (these fs) = cc in
          let gs : final_registers R (these fs) (moved R cur f) ≡ map (moved_registers R im) (these fs) = cc in
          let p = ih (moved R cur f) hs gs in
          record {
            plain = rw (taken-image R f e cur, p.plain, taken-answer R f e cur ∙ a ∙ sym (taken-answer R f e im));
            plain_registers = rw (taken-image R f e cur, p.plain_registers, taken-registers R f e cur ∙ r ∙ sym (taken-registers R f e im));
          }
      go false e ih h g =
          let p = ih cur h g in
          record {
            plain = rw (other-image R f e cur, p.plain, other-answer R f e cur im);
            plain_registers = rw (other-image R f e cur, p.plain_registers, other-registers R f e cur ∙ sym (other-registers R f e im));
          }

module _ (s : List ℕ) where
  taken_member : (g : Stopped) (fs : List Stopped) → Memᴰ g (taken s fs) → Memᴰ g fs
  taken_member g [] m = m
  taken_member g (f ∷ fs) m = go (in_profile s f.frame.machine) m (taken_member g fs)
    where
      go : (b : Bool) → Memᴰ g (cond b (f ∷ taken s fs) (taken s fs)) → (Memᴰ g (taken s fs) → Memᴰ g fs) → Memᴰ g (f ∷ fs)
      go true m ih = pick (Memᴰ.cases_cons m)
        where
          pick : (g ≡ f) ⊎ Memᴰ g (taken s fs) → Memᴰ g (f ∷ fs)
          pick (inl e) = Memᴰ.head e
          pick (inr n) = Memᴰ.tail (ih n)
      go false m ih = Memᴰ.tail (ih m)

  pub taken-disjoint : (fs : List Stopped) → Disjoint s fs → Disjoint s (taken s fs)
  taken-disjoint [] d = d
  taken-disjoint (f ∷ fs) d = go (in_profile s f.frame.machine) (taken-disjoint fs d.1)
    where
      go : (b : Bool) → Disjoint s (taken s fs) → Disjoint s (cond b (f ∷ taken s fs) (taken s fs))
      go true h = ((λ g m. d.0 g (taken_member g fs m)), h)
      go false h = h

  pub taken_perm : {fs gs : List Stopped} → Permᴰ fs gs → Permᴰ (taken s fs) (taken s gs)
  taken_perm Permᴰ.nil = Permᴰ.nil
  taken_perm (Permᴰ.cons {a = a} {b = b} {l₁ = fs} {l₂ = gs} e p) =
      rw (ap (λ (f : Stopped). in_profile s f.frame.machine) e) (go (in_profile s b.frame.machine) (taken_perm p))
    where
      go : (t : Bool) → Permᴰ (taken s fs) (taken s gs) → Permᴰ (cond t (a ∷ taken s fs) (taken s fs)) (cond t (b ∷ taken s gs) (taken s gs))
      go true q = Permᴰ.cons e q
      go false q = q
  taken_perm (Permᴰ.swap {a = a} {b = b} {a' = a'} {b' = b'} {l = fs} e d) =
      rw (ap (λ (f : Stopped). in_profile s f.frame.machine) e, ap (λ (f : Stopped). in_profile s f.frame.machine) d)
      (go (in_profile s b'.frame.machine) (in_profile s a'.frame.machine))
    where
      xs : List Stopped
      xs = taken s fs

      go : (t u : Bool) → Permᴰ (cond t (a ∷ cond u (b ∷ xs) xs) (cond u (b ∷ xs) xs)) (cond u (a' ∷ cond t (b' ∷ xs) xs) (cond t (b' ∷ xs) xs))
      go true true = Permᴰ.swap e d
      go true false = Permᴰ.cons e (Permᴰ.refl xs)
      go false true = Permᴰ.cons d (Permᴰ.refl xs)
      go false false = Permᴰ.refl xs
  taken_perm (Permᴰ.trans p q) = Permᴰ.trans (taken_perm p) (taken_perm q)
