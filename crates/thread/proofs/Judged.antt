-- The judgement of a list's frames, one by one on the starting image: it passes exactly where each is accepted.
use Prim.Native.Nat.{ℕ, suc}
use mathlib.Core.Path.{◌≡◌, refl}
use mathlib.Core.Bool.{Bool, true, false}
use mathlib.Core.Logic.{⊎_elim}
use mathlib.Core.List.Memᴰ
use mathlib.Core.List.{List, [], ◌∷◌, Memᴰ}
use borrow.Author.Tests.{eqb-true, eqb-false, eq-eqb}
use lib.Dec.{eqb}
use Rattle.stackmap.specs.Verdict.{need}
use Rattle.moves.specs.declared.Move.{Move}
use Rattle.moves.specs.Settle.{refused_move}
use Rattle.relocate.specs.Restore.{Restore}
use Rattle.relocate.specs.Stopped.{Stopped}
use Rattle.relocate.specs.Relocation.{answer}
use Rattle.thread.specs.Thread.{passes, judged}

passes_tells : (m : Move) (i : ℕ) (k : Move) → (passes m i k).number ≡ 0 → (m.number ≡ 0) × (k.number ≡ 0)
unfolding passes
passes_tells m i k h = go (eqb m.number 0) refl h
  where
    go : (t : Bool) → eqb m.number 0 ≡ t → (need t (refused_move m.number i) k).number ≡ 0 → (m.number ≡ 0) × (k.number ≡ 0)
    go true e z = (eqb-true _ _ e, z)
    go false e z = absurd (eqb-false _ _ e z)

module _ (R : Restore) (im : List ℕ) where
  abbrev ans : Stopped → Move
  ans f = answer R im f

  -- each of these frames is accepted by itself
  abbrev Each : List Stopped → Type 0
  Each fs = (f : Stopped) → Memᴰ f fs → (ans f).number ≡ 0

  pub judged_tells : (i : ℕ) (fs : List Stopped) (k : Move) → (judged R im i fs k).number ≡ 0 → Each fs × (k.number ≡ 0)
  unfolding judged
  judged_tells i [] k h = (λ f m. absurd (Memᴰ.not-nil m), h)
  judged_tells i (f ∷ fs) k h =
      let p = passes_tells (ans f) i (judged R im (suc i) fs k) h in
      let r = judged_tells (suc i) fs k p.1 in
      (λ g m. ⊎_elim (λ e. rw e p.0) (λ n. r.0 g n) (Memᴰ.cases_cons m), r.1)

  pub judged-passes : (i : ℕ) (fs : List Stopped) (k : Move) → Each fs → judged R im i fs k ≡ k
  unfolding judged passes
  judged-passes i [] k a = refl
  judged-passes i (f ∷ fs) k a =
      rw (eq-eqb _ 0 (a f (Memᴰ.head refl))) (judged-passes (suc i) fs k (λ g m. a g (Memᴰ.tail m)))
