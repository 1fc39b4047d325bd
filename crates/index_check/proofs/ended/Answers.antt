use mathlib.Core.Path.{refl, ◌∙◌}
use borrow.Author.Tests.{eq-eqb, ne_eqb}
use Rattle.index_check.proofs.ended.Goals as goal

pub returns-then-hits-eq0 : goal.returns-then-hits-eq0
returns-then-hits-eq0 c = (c.not_found.ensures ∙ rw (eq-eqb _ _ c.if-hits-eq0.true), refl)

pub returns : goal.returns
returns c = (rw (ne_eqb _ _ c.if-hits-eq0.false), refl)
