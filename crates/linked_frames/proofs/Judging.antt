-- The judgement of a list's frames, one after another, each by its own map.
use Prim.Native.Nat.{ℕ, suc, ◌+◌, ◌*◌, ◌-◌, ◌≤◌, ◌<◌}
use mathlib.Core.Path.{◌≡◌, sym, ◌∙◌}
use mathlib.Core.List.{List, ◌∷◌}
use native.Mathlib.Omega.{arith}
use borrow.Author.Tests.{eq-eqb, ne_eqb}
use Rattle.moves.specs.declared.Move.{Move}
use Rattle.moves.specs.Settle.{refused_move, accepted_move}
use Rattle.relocate.specs.Restore.{Restore}
use Rattle.relocate.specs.Stopped.{Stopped}
use Rattle.linked.specs.Linked.{Map}
use Rattle.thread.specs.Thread.{Thread, stopped_at, frames_from, passes}
use Rattle.thread.proofs.Frames.{frames_step, frames-end, frames-start}
use Rattle.linked_moves.specs.Thread.{answer_over, judged_over, pointers_over}
use Rattle.linked_frames.proofs.ByMap.{over-few}

module _ (R : Restore) (ms : List Map) (im : List ℕ) (f : Stopped) (m : Move) (e : m ≡ answer_over R ms im f) (fs : List Stopped) where
  judge_one : (k : ℕ) (K : Move) → m.number ≡ 0 → judged_over R ms im k (f ∷ fs) K ≡ judged_over R ms im (k + 1) fs K
  unfolding judged_over passes
  judge_one k K z = let g : k + 1 ≡ suc k = omega arith in rw (← e, eq-eqb m.number 0 z, g)

  count-one : (sum : ℕ) → sum + pointers_over R ms im (f ∷ fs) ≡ sum + m.count + pointers_over R ms im fs
  unfolding pointers_over
  count-one sum = rw (← e) (omega arith)

module _ (R : Restore) (ms : List Map) (im : List ℕ) (t : Thread) (n : ℕ) where
  abbrev all : List Stopped
  all = frames_from t n 0

  abbrev K : Move
  K = accepted_move (pointers_over R ms im all)

  -- the first k frames are accepted, and have so many pointers
  pub record Judging (k sum : ℕ) : Type 0 where
    pub same : judged_over R ms im 0 all K ≡ judged_over R ms im k (frames_from t (n - k) k) K
    pub added : pointers_over R ms im all ≡ sum + pointers_over R ms im (frames_from t (n - k) k)
    pub few : sum ≤ 256 * k
    pub most : k ≤ n

  pub judging_start : Judging 0 0
  judging_start = record { same = rw (frames-start t n); added = rw (frames-start t n) (omega arith); few = omega arith; most = omega arith }

  module _ {k sum : ℕ} (j : Judging k sum) (l : k < n) (m : Move) (e : m ≡ answer_over R ms im (stopped_at t k)) where
    pub judging_few : m.count ≤ R.settings.most
    judging_few = rw e (over-few R ms im (stopped_at t k))

    pub judging_on : R.settings.most ≤ 256 → m.number ≡ 0 → Judging (k + 1) (sum + m.count)
    judging_on lim z =
        record {
          same = j.same ∙ rw (frames_step t n k l) (judge_one R ms im (stopped_at t k) m e _ k K z);
          added = j.added ∙ rw (frames_step t n k l) (count-one R ms im (stopped_at t k) m e _ sum);
          few = omega (arith, j.few, judging_few, lim);
          most = omega arith;
        }

    pub judging_stop : (m.number ≡ 0 → ⊥) → refused_move m.number k ≡ judged_over R ms im 0 all K
    unfolding judged_over passes
    judging_stop z = sym (j.same ∙ rw (frames_step t n k l, ← e, ne_eqb m.number 0 z))

  pub judging_end : {k sum : ℕ} → Judging k sum → n ≤ k → accepted_move sum ≡ judged_over R ms im 0 all K
  unfolding judged_over pointers_over
  judging_end {k} {sum} j l =
      let z : sum + 0 ≡ sum = omega arith in
      let e : pointers_over R ms im all ≡ sum = j.added ∙ rw (frames-end t n k l, z) in
      sym (j.same ∙ rw (frames-end t n k l, e))
