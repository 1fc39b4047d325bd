-- What an accepted call tells.
use Prim.Native.Nat.{ℕ, suc, ◌*◌, ◌/◌, ◌≤◌}
use mathlib.Core.Path.{◌≡◌, refl, sym, ap, ◌∙◌}
use mathlib.Core.Bool.{Bool, true, false, cond}
use mathlib.Core.List.{List, [], ◌∷◌, map, Memᴰ}
use native.Mathlib.Omega.{arith}
use lib.ListN.{length}
use Rattle.stackmap.specs.Verdict.{Refused}
use Rattle.stackmap.specs.Check.{section_check}
use Rattle.stackmap.proofs.Numbers.{section-numbered}
use Rattle.questions.specs.Questions.{ask}
use Rattle.moves.specs.Limits.{pairs_most}
use Rattle.moves.specs.declared.Move.{Move}
use Rattle.moves.specs.Settle.{refused_move, accepted_move}
use Rattle.relocate.specs.Restore.{Restore}
use Rattle.relocate.specs.Stopped.{Stopped}
use Rattle.relocate.specs.Relocation.{answer, Extent, extent_of}
use Rattle.thread.specs.Thread.{Thread, shares_one, apart, list_right, frames_from, frames_of, pointers_in, thread_answer}
use Rattle.thread.specs.Code.{Looked, Ready}
use Rattle.thread.specs.Theorems.{Movable}
use Rattle.thread.proofs.Judged.{judged-passes}
use Rattle.thread.proofs.OneInstant.{accepted_only}
use Rattle.thread.proofs.Parts.{right_tells}
use Rattle.thread_call.proofs.Whole.{thread-section}
use Rattle.explain.specs.Rows.{rows_answer, rows_list}
use Rattle.explain_outline.proofs.Answers.{rows-no, list-kept}
use Rattle.explain_frames.specs.Rows.{thread_rows}
use Rattle.explain_frames.proofs.Lengths.{thread-length}
use Rattle.explain_thread_rows.proofs.Lent.{pointers_few}

-- 26 not given: what follows is
apart-passed : (i : ℕ) (earlier xs : List Extent) (k : Move) → (apart i earlier xs k).number ≡ 0 → apart i earlier xs k ≡ k
unfolding apart
apart-passed i earlier [] k h = refl
apart-passed i earlier (x ∷ xs) k h = go (apart-passed (suc i) (x ∷ earlier) xs k) (shares_one x earlier) h
  where
    go : ((apart (suc i) (x ∷ earlier) xs k).number ≡ 0 → apart (suc i) (x ∷ earlier) xs k ≡ k) → (b : Bool)
        → (cond b (refused_move 26 i) (apart (suc i) (x ∷ earlier) xs k)).number ≡ 0 → cond b (refused_move 26 i) (apart (suc i) (x ∷ earlier) xs k) ≡ k
    go rest true e = absurd (omega arith)
    go rest false e = rest e

module _ (R : Restore) (im : List ℕ) (t : Thread) (accepts : (thread_answer R im t).number ≡ 0) where
  m : Movable R im t
  m = accepted_only R im t accepts

  to_apart : thread_answer R im t ≡ apart 0 [] (map (extent_of R.section) (frames_of t)) (accepted_move (pointers_in R im (frames_of t)))
  unfolding thread_answer ask
  to_apart =
      rw (m.section_right, m.allowed_right, m.image_right, m.table_right, m.list_right)
      (judged-passes R im 0 (frames_of t) (apart 0 [] (map (extent_of R.section) (frames_of t)) (accepted_move (pointers_in R im (frames_of t)))) m.each)

  counted : thread_answer R im t ≡ accepted_move (pointers_in R im (frames_of t))
  counted =
      to_apart ∙ apart-passed 0 [] (map (extent_of R.section) (frames_of t)) (accepted_move (pointers_in R im (frames_of t))) (sym (ap (λ (x : Move). x.number) to_apart) ∙ accepts)

  -- how many numbers its rows are
  pub numbers_are : length (thread_rows R im 0 (frames_of t)) ≡ 16 * (thread_answer R im t).count
  numbers_are =
      thread-length R im 0 (frames_of t) m.each ∙ ap (λ (x : Move). 16 * x.count) (sym counted)

  module _ (count : ℕ) (keys hits : List ℕ) (looked : Looked R.section t.list count keys hits)
      (is : list_right t.list t.registers ≡ true → count ≡ length t.list / 2) (most : R.settings.most ≤ pairs_most) where
    pub ready : Ready R t.machine (length im) (length t.registers) t.list count keys hits
    ready =
        record {
          looked = looked;
          allowed_right = m.allowed_right;
          most_right = most;
          image_right = m.image_right;
          table_right = m.table_right;
          registers_right = rw (is m.list_right) (right_tells t.list t.registers m.list_right).1;
        }

    pub frames-are : frames_from t count 0 ≡ frames_of t
    unfolding frames_of
    frames-are = rw (is m.list_right)

    pub each_yes : (f : Stopped) → Memᴰ f (frames_from t count 0) → (answer R im f).number ≡ 0
    each_yes = rw frames-are m.each

    pub pointers_are : pointers_in R im (frames_from t count 0) ≡ (thread_answer R im t).count
    pointers_are = ap (pointers_in R im) frames-are ∙ ap (λ (x : Move). x.count) (sym counted)

    pub count-few : (thread_answer R im t).count ≤ 1048576
    count-few = omega (arith, pointers_are, pointers_few R im t most count 0, looked.most)

-- The section's own refusal is the call's.
module _ (R : Restore) (im : List ℕ) (t : Thread) (n p : ℕ) (h : section_check R.section ≡ Refused n p) (rows lent : List ℕ) where
  has-number : n ≡ 0 → ⊥
  has-number z = let a = (rw h at (section-numbered R.section)).above in omega arith

  pub section_no : refused_move n p ≡ rows_answer (thread_answer R im t) rows lent
  section_no =
      let e = (thread-section R im t n p h).answer_is in
      sym (rows-no (thread_answer R im t) rows lent n p (ap (λ (m : Move). m.number) (sym e)) (ap (λ (m : Move). m.place) (sym e)) has-number)

  pub section-kept : lent ≡ rows_list (thread_answer R im t) rows lent
  section-kept = sym (list-kept (thread_answer R im t) rows lent n p (sym section_no) has-number)
