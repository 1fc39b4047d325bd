-- The judgement of a list's frames, one after another.
use Prim.Native.Nat.{ℕ, suc, ◌+◌, ◌*◌, ◌-◌, ◌≤◌, ◌<◌}
use mathlib.Core.Path.{◌≡◌, sym, ◌∙◌}
use mathlib.Core.List.{List, ◌∷◌}
use native.Mathlib.Omega.{arith}
use borrow.Author.Tests.{eq-eqb, ne_eqb}
use Rattle.moves.specs.declared.Move.{Move}
use Rattle.moves.specs.Settle.{refused_move}
use Rattle.relocate.specs.Restore.{Restore}
use Rattle.relocate.specs.Stopped.{Stopped}
use Rattle.relocate.specs.Relocation.{answer}
use Rattle.thread.specs.Thread.{Thread, stopped_at, frames_from, passes, judged, pointers_in}
use Rattle.thread.proofs.Frames.{frames_step, frames-end, frames-start}
use Rattle.thread_call.proofs.Few.{answer-few}

module _ (R : Restore) (im : List ℕ) (f : Stopped) (m : Move) (e : m ≡ answer R im f) (fs : List Stopped) where
  judge_one : (k : ℕ) (K : Move) → m.number ≡ 0 → judged R im k (f ∷ fs) K ≡ judged R im (k + 1) fs K
  unfolding judged passes
  judge_one k K z = let g : k + 1 ≡ suc k = omega arith in rw (← e, eq-eqb m.number 0 z, g)

  count-one : (sum : ℕ) → sum + pointers_in R im (f ∷ fs) ≡ sum + m.count + pointers_in R im fs
  unfolding pointers_in
  count-one sum = rw (← e) (omega arith)

module _ (R : Restore) (im : List ℕ) (ns : Thread) (n : ℕ) (K : Move) where
  -- the first k frames are accepted, and have so many pairs
  pub record Judging (k sum : ℕ) : Type 0 where
    pub same : judged R im 0 (frames_from ns n 0) K ≡ judged R im k (frames_from ns (n - k) k) K
    pub added : pointers_in R im (frames_from ns n 0) ≡ sum + pointers_in R im (frames_from ns (n - k) k)
    pub few : sum ≤ 256 * k
    pub most : k ≤ n

  pub judging_start : Judging 0 0
  judging_start = record { same = rw (frames-start ns n); added = rw (frames-start ns n) (omega arith); few = omega arith; most = omega arith }

  module _ {k sum : ℕ} (j : Judging k sum) (l : k < n) (m : Move) (e : m ≡ answer R im (stopped_at ns k)) where
    pub judging_few : m.count ≤ R.settings.most
    judging_few = rw e (answer-few R im (stopped_at ns k))

    pub judging_on : R.settings.most ≤ 256 → m.number ≡ 0 → Judging (k + 1) (sum + m.count)
    judging_on lim z =
        record {
          same = j.same ∙ rw (frames_step ns n k l) (judge_one R im (stopped_at ns k) m e _ k K z);
          added = j.added ∙ rw (frames_step ns n k l) (count-one R im (stopped_at ns k) m e _ sum);
          few = omega (arith, j.few, judging_few, lim);
          most = omega arith;
        }

    pub judging_stop : (m.number ≡ 0 → ⊥) → refused_move m.number k ≡ judged R im 0 (frames_from ns n 0) K
    unfolding judged passes
    judging_stop z = sym (j.same ∙ rw (frames_step ns n k l, ← e, ne_eqb m.number 0 z))

  pub judging_end : {k sum : ℕ} → Judging k sum → n ≤ k
      → (judged R im 0 (frames_from ns n 0) K ≡ K) × (pointers_in R im (frames_from ns n 0) ≡ sum)
  unfolding judged pointers_in
  judging_end {k} {sum} j l =
      let z : sum + 0 ≡ sum = omega arith in
      (j.same ∙ rw (frames-end ns n k l), j.added ∙ rw (frames-end ns n k l, z))
