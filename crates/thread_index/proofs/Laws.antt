-- With the right index a thread answers as without; and what each of the call's tests tells.
use Prim.Native.Nat.{ℕ}
use mathlib.Core.Path.{◌≡◌, refl, sym, ◌∙◌}
use mathlib.Core.Bool.{Bool, true, false, cond, true≢false}
use mathlib.Core.List.{List, flatten}
use borrow.Author.Tests.{ne_eqb}
use lib.Dec.{eqb}
use lib.ListN.{length}
use Rattle.stackmap.specs.Verdict.{Verdict}
use Rattle.stackmap.specs.Verdict.{Valid, Refused}
use Rattle.stackmap.specs.Verdict.{need}
use Rattle.stackmap.specs.Section.{is_old}
use Rattle.stackmap.specs.Check.{section_check, Accepted}
use Rattle.questions.specs.declared.Found.{Found}
use Rattle.questions.specs.Kept.{of_section}
use Rattle.questions.specs.Questions.{ask}
use Rattle.questions.proofs.Searched.{asked}
use Rattle.index.specs.Index.{index_of, same}
use Rattle.index.proofs.Same.{same_self}
use Rattle.moves.specs.declared.Move.{Move}
use Rattle.moves.specs.Table.{table_right}
use Rattle.moves.specs.Settle.{refused_move}
use Rattle.relocate.specs.Restore.{Restore, allowed}
use Rattle.relocate.specs.Plan.{image_right}
use Rattle.relocate.specs.Lists.{final, final_registers}
use Rattle.thread.specs.Thread.{Thread, frames_of, thread_answer, thread_image, thread_registers}
use Rattle.thread.specs.Code.{Threads}
use Rattle.thread_index.specs.ByIndex.{thread_by_index_answer, thread_by_index_image, thread_by_index_registers, ThreadsByIndex}
use Rattle.thread_index.specs.Laws.{IndexMoves}

-- tests that are made twice
once : {A : Type 0} (v : Verdict) (a b c : Bool) (refused : ℕ → ℕ → A) (k : A) (l m n : ℕ)
    → ask refused (need a (refused l 0) (need b (refused m 0) (need c (refused n 0) (ask refused (need a (refused l 0) (need b (refused m 0) (need c (refused n 0) k))) v)))) v
    ≡ ask refused (need a (refused l 0) (need b (refused m 0) (need c (refused n 0) k))) v
unfolding ask
once (Refused n p) a b c refused k l m o = refl
once (Valid e) false b c refused k l m n = refl
once (Valid e) true false c refused k l m n = refl
once (Valid e) true true false refused k l m n = refl
once (Valid e) true true true refused k l m n = refl

twice : (b : Bool) (x y : List ℕ) → cond b (cond b x y) y ≡ cond b x y
twice true x y = refl
twice false x y = refl

module _ (R : Restore) (im : List ℕ) (ns : Thread) where
  with_index : is_old R.section ≡ false → thread_by_index_answer R im (index_of R.section) ns ≡ thread_answer R im ns
  unfolding thread_by_index_answer thread_answer
  with_index new = rw (new, same_self (index_of R.section)) (once (section_check R.section) (allowed R ns.machine) (image_right R.first (length im)) (table_right R.olds R.news) refused_move _ 33 13 14)

  left_so : is_old R.section ≡ false → thread_by_index_image R im (index_of R.section) ns ≡ thread_image R im ns
  unfolding thread_by_index_image thread_image
  left_so new = rw (with_index new) (twice (eqb (thread_answer R im ns).number 0) (final R (frames_of ns) im) im)

  registers_so : is_old R.section ≡ false → thread_by_index_registers R im (index_of R.section) ns ≡ thread_registers R im ns
  unfolding thread_by_index_registers thread_registers
  registers_so new = rw (with_index new) (twice (eqb (thread_answer R im ns).number 0) (flatten (final_registers R (frames_of ns) im)) ns.registers)

-- What the code's tests tell.

-- the section's own refusal is none of the numbers 0 and 10
pub own_number : (r : Found) → of_section r ≡ true → r.number ≡ 0 → ⊥
unfolding of_section
own_number r h z = true≢false (sym (rw z at h))

module _ (R : Restore) (im index : List ℕ) (ns : Thread) where
  -- a refusal leaves image and registers as lent
  pub refused_so : {r : Move} (n p : ℕ) → (n ≡ 0 → ⊥) → r ≡ refused_move n p → thread_by_index_answer R im index ns ≡ refused_move n p
      → ThreadsByIndex R im index ns r im ns.registers
  unfolding thread_by_index_image thread_by_index_registers
  refused_so n p d q e = record { answer_is = q ∙ sym e; image_is = rw (e, ne_eqb n 0 d); registers_is = rw (e, ne_eqb n 0 d) }

  -- the call without an index is made
  pub moved_so : {r : Move} {after after-rs : List ℕ} → thread_by_index_answer R im index ns ≡ thread_answer R im ns
      → Threads R im ns r after after-rs → ThreadsByIndex R im index ns r after after-rs
  unfolding thread_by_index_image thread_by_index_registers thread_image thread_registers
  moved_so e t =
      record {
        answer_is = t.answer_is ∙ sym e;
        image_is = t.image_is ∙ rw e (sym (twice (eqb (thread_answer R im ns).number 0) (final R (frames_of ns) im) im));
        registers_is = t.registers_is ∙ rw e (sym (twice (eqb (thread_answer R im ns).number 0) (flatten (final_registers R (frames_of ns) im)) ns.registers));
      }

  module _ (h : Accepted R.section) where
    pub by_33 : allowed R ns.machine ≡ false → thread_by_index_answer R im index ns ≡ refused_move 33 0
    unfolding thread_by_index_answer
    by_33 a = asked refused_move _ R.section h ∙ rw a

    module _ (w : allowed R ns.machine ≡ true) where
      pub by_13 : image_right R.first (length im) ≡ false → thread_by_index_answer R im index ns ≡ refused_move 13 0
      unfolding thread_by_index_answer
      by_13 a = asked refused_move _ R.section h ∙ rw (w, a)

      module _ (a : image_right R.first (length im) ≡ true) where
        pub by_14 : table_right R.olds R.news ≡ false → thread_by_index_answer R im index ns ≡ refused_move 14 0
        unfolding thread_by_index_answer
        by_14 b = asked refused_move _ R.section h ∙ rw (w, a, b)

        module _ (b : table_right R.olds R.news ≡ true) where
          pub by_27 : is_old R.section ≡ true → thread_by_index_answer R im index ns ≡ refused_move 27 0
          unfolding thread_by_index_answer
          by_27 o = asked refused_move _ R.section h ∙ rw (w, a, b, o)

          pub by_29 : is_old R.section ≡ false → same index (index_of R.section) ≡ false → thread_by_index_answer R im index ns ≡ refused_move 29 0
          unfolding thread_by_index_answer
          by_29 o r = asked refused_move _ R.section h ∙ rw (w, a, b, o, r)

          pub by_call : is_old R.section ≡ false → same index (index_of R.section) ≡ true → thread_by_index_answer R im index ns ≡ thread_answer R im ns
          unfolding thread_by_index_answer
          by_call o r = asked refused_move _ R.section h ∙ rw (w, a, b, o, r)

pub index_moves : IndexMoves
index_moves = record { same_answer = with_index; same_image = left_so; same_registers = registers_so }
