use borrow.Author.Tests.{eq-eqb, ne_eqb}
use Rattle.questions.specs.Kept.{of_section}
use Rattle.questions_find.proofs.find.of_section.Goals as goal

pub returns-then-found-eq0 : goal.returns-then-found-eq0
unfolding of_section
returns-then-found-eq0 c = rw (eq-eqb _ _ c.if-found-eq0.true)

pub returns-then-found-eq-NOT_FOUND : goal.returns-then-found-eq-NOT_FOUND
unfolding of_section
returns-then-found-eq-NOT_FOUND c = rw (ne_eqb _ _ c.if-found-eq0.false, eq-eqb _ _ c.if-found-eq-NOT_FOUND.true)

pub returns : goal.returns
unfolding of_section
returns c = rw (ne_eqb _ _ c.if-found-eq0.false, ne_eqb _ _ c.if-found-eq-NOT_FOUND.false)
