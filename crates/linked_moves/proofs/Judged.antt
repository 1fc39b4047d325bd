-- The judgement of a list's frames, one by one on the starting image, each by its own map: it passes exactly where each is accepted.
use Prim.Native.Nat.{ℕ, suc}
use mathlib.Core.Path.{◌≡◌, refl}
use mathlib.Core.Bool.{Bool, true, false}
use mathlib.Core.Logic.{⊎_elim}
use mathlib.Core.List.Memᴰ
use mathlib.Core.List.{List, [], ◌∷◌, Memᴰ}
use borrow.Author.Tests.{eqb-true, eqb-false, eq-eqb}
use lib.Dec.{eqb}
use Rattle.stackmap.specs.Verdict.{need}
use Rattle.moves.specs.declared.Move.{Move}
use Rattle.moves.specs.Settle.{refused_move}
use Rattle.relocate.specs.Restore.{Restore}
use Rattle.relocate.specs.Stopped.{Stopped}
use Rattle.linked.specs.Linked.{Map}
use Rattle.thread.specs.Thread.{passes}
use Rattle.linked_moves.specs.Thread.{answer_over, judged_over}

module _ (R : Restore) (ms : List Map) (im : List ℕ) where
  abbrev ans : Stopped → Move
  ans f = answer_over R ms im f

  -- each of these frames is accepted by itself
  abbrev pub Each : List Stopped → Type 0
  Each fs = (f : Stopped) → Memᴰ f fs → (ans f).number ≡ 0

  pub judged-passes : (i : ℕ) (fs : List Stopped) (k : Move) → Each fs → judged_over R ms im i fs k ≡ k
  unfolding judged_over passes
  judged-passes i [] k a = refl
  judged-passes i (f ∷ fs) k a =
      rw (eq-eqb _ 0 (a f (Memᴰ.head refl))) (judged-passes (suc i) fs k (λ g m. a g (Memᴰ.tail m)))

  -- an answer with the number 0 has passed them all
  pub judged_tells : (i : ℕ) (fs : List Stopped) (k : Move) → (judged_over R ms im i fs k).number ≡ 0 → Each fs
  unfolding judged_over passes
  judged_tells i [] k h = λ f m. absurd (Memᴰ.not-nil m)
  judged_tells i (f ∷ fs) k h = go (judged_tells (suc i) fs k) (eqb (ans f).number 0) refl h
    where
      go : ((judged_over R ms im (suc i) fs k).number ≡ 0 → Each fs) → (b : Bool) → eqb (ans f).number 0 ≡ b
          → (need b (refused_move (ans f).number i) (judged_over R ms im (suc i) fs k)).number ≡ 0 → Each (f ∷ fs)
      go rest true e z g m = ⊎_elim (λ x. rw x (eqb-true _ _ e)) (λ n. rest z g n) (Memᴰ.cases_cons m)
      go rest false e z g m = absurd (eqb-false _ _ e z)

  -- a refused frame ends the call, whatever would follow
  pub judged-ends : (i : ℕ) (fs : List Stopped) (k k' : Move) → k.number ≡ 0 → ((judged_over R ms im i fs k).number ≡ 0 → ⊥)
      → judged_over R ms im i fs k ≡ judged_over R ms im i fs k'
  unfolding judged_over passes
  judged-ends i [] k k' z h = absurd (h z)
  judged-ends i (f ∷ fs) k k' z h = go (judged-ends (suc i) fs k k' z) (eqb (ans f).number 0) h
    where
      go : (((judged_over R ms im (suc i) fs k).number ≡ 0 → ⊥) → judged_over R ms im (suc i) fs k ≡ judged_over R ms im (suc i) fs k')
          → (b : Bool) → ((need b (refused_move (ans f).number i) (judged_over R ms im (suc i) fs k)).number ≡ 0 → ⊥)
          → need b (refused_move (ans f).number i) (judged_over R ms im (suc i) fs k)
          ≡ need b (refused_move (ans f).number i) (judged_over R ms im (suc i) fs k')
      go rest true g = rest g
      go rest false g = refl
