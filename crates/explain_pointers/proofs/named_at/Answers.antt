use borrow.Author.Tests.{eq-eqb}
use Rattle.explain_pointers.proofs.Searching.{named-null, named_live}
use Rattle.explain_pointers.proofs.named_at.Goals as goal

pub returns-then-live-k-ne0 : goal.returns-then-live-k-ne0
returns-then-live-k-ne0 c = named_live _ _ _ _ c.if-live-k-ne0.true

pub returns-else-live-k-ne0 : goal.returns-else-live-k-ne0
returns-else-live-k-ne0 c = rw (eq-eqb _ _ c.if-live-k-ne0.false) (named-null _ _ _ _ c.if-live-k-ne0.false)
