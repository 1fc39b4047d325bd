-- One frame by the bytes of its map: its plan, and what its judgement tells of its answer.
use Prim.Native.Nat.{ℕ}
use mathlib.Core.Path.{◌≡◌, sym, ◌∙◌}
use mathlib.Core.Bool.{true}
use mathlib.Core.List.{List}
use borrow.Author.Tests.{eq-eqb}
use lib.ListN.{length}
use Rattle.stackmap.specs.Check.{Accepted}
use Rattle.questions.specs.Questions.{sought}
use Rattle.moves.specs.Table.{table_right}
use Rattle.moves.specs.Settle.{refused_move, accepted_move}
use Rattle.relocate.specs.declared.Cursor.{Cursor}
use Rattle.relocate.specs.Restore.{Restore, restore, allowed}
use Rattle.relocate.specs.Stopped.{Stopped, registers_right, cursor}
use Rattle.relocate.specs.Plan.{image_right, only, plan}
use Rattle.relocate.specs.Relocation.{answer}
use Rattle.relocate.specs.Code.{limited, plan_entry}
use Rattle.relocate.proofs.Consequences.{counts}
use Rattle.relocate_plan.specs.declared.Outline.{Outline}
use Rattle.relocate_frame.proofs.Stages.{plan-at, limited-entry}
use Rattle.relocate_judge.specs.Judged.{Judged}

module _ (R : Restore) (im : List ℕ) (st : Stopped) where
  -- by the cursor that the code works out, and of the settings the pointer count alone
  pub plain-plan : Accepted R.section → allowed R st.frame.machine ≡ true → image_right R.first (length im) ≡ true → table_right R.olds R.news ≡ true
      → length st.registers ≡ 32 → (f : Cursor) → f ≡ cursor st
      → plan R (length im) st
      ≡ only (sought R.section f.function f.address) (plan_entry (restore R.section R.olds R.news R.first (limited R.settings.most)) (length im) f)
  unfolding registers_right
  plain-plan k l i t g f e =
      plan-at R im st k l i t (eq-eqb _ 32 g) f e
      ∙ sym (limited-entry R.section R.olds R.news R.first R.settings (length im) f (sought R.section f.function f.address))

  module _ {f : Cursor} {o : Outline} {live bases derived : List ℕ} (j : Judged R im st f o live bases derived) where
    pub plain-refused : (o.number ≡ 0 → ⊥) → refused_move o.number o.place ≡ answer R im st
    plain-refused h =
        let n = j.refused h in
        let z = counts.refused R im st (λ e. h (sym n.0 ∙ e)) in
        λ i. record { number = sym n.0 i; place = sym n.1 i; count = sym z i }

    pub plain-accepted : o.number ≡ 0 → accepted_move o.pointers ≡ answer R im st
    plain-accepted z = sym (j.held z).answer_is
