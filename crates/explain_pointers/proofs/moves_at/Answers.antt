use mathlib.Core.Path.{sym, ◌∙◌}
use mathlib.Core.Bool.{true≢false}
use borrow.Author.Tests.{eq-eqb, eqb-true, eqb-false}
use Rattle.explain_pointers.proofs.Searching.{moves_null, moves_other, moves_by}
use Rattle.explain_pointers.proofs.moves_at.Goals as goal
use Rattle.explain_pointers.proofs.moves_at.Goals.{then-live-k-ne0, else-live-k-ne0}

pub returns-then-derived-k : goal.returns-then-derived-k
returns-then-derived-k c =
    elim c.if-live-k-ne0.branch [
      | then-live-k-ne0 w ↦ moves_by _ _ _ _ _ _ w.if-live-k-ne0.true _ (eqb-true _ _ (sym w.value-is ∙ c.if-derived-k.true)) c.read.ensures
      | else-live-k-ne0 w ↦ absurd (true≢false (sym c.if-derived-k.true ∙ w.value-is ∙ rw (eq-eqb _ _ w.if-live-k-ne0.false)))
    ]

pub returns-else-derived-k : goal.returns-else-derived-k
returns-else-derived-k c =
    elim c.if-live-k-ne0.branch [
      | then-live-k-ne0 w ↦ rw c.if-derived-k.false (moves_other _ _ _ _ _ _ w.if-live-k-ne0.true (eqb-false _ _ (sym w.value-is ∙ c.if-derived-k.false)))
      | else-live-k-ne0 w ↦ rw c.if-derived-k.false (moves_null _ _ _ _ _ _ w.if-live-k-ne0.false)
    ]
