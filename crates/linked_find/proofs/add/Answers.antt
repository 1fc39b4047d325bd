use mathlib.Core.Path.{◌≡◌, ◌∙◌}
use native.Mathlib.Omega.{arith}
use borrow.Author.Tests.{eq-eqb, ne_eqb}
use Rattle.linked_find.specs.Added.{added}
use Rattle.linked_find.proofs.add.Goals as goal

pub returns-then-found-eq-OTHER_VERSION : goal.returns-then-found-eq-OTHER_VERSION
unfolding added
returns-then-found-eq-OTHER_VERSION c = (rw (eq-eqb _ _ c.if-found-eq-OTHER_VERSION.true), omega arith)

pub returns-then-old : goal.returns-then-old
unfolding added
returns-then-old c = (c.refused.ensures ∙ rw (ne_eqb _ _ c.if-found-eq-OTHER_VERSION.false, c.if-old.true), rw c.refused.ensures (omega arith))

pub returns-then-here-eq0 : goal.returns-then-here-eq0
unfolding added
returns-then-here-eq0 c =
    let z : c.args.hits.sharing ≡ 0 = omega arith in
    (rw (ne_eqb _ _ c.if-found-eq-OTHER_VERSION.false, c.if-old.false, eq-eqb _ _ z), omega arith)

pub returns-then-before-eq0 : goal.returns-then-before-eq0
unfolding added
returns-then-before-eq0 c =
    let z : c.args.found.sharing ≡ 0 = omega arith in
    (rw (ne_eqb _ _ c.if-found-eq-OTHER_VERSION.false, c.if-old.false, ne_eqb _ _ c.if-here-eq0.false, eq-eqb _ _ z), omega arith)

pub returns : goal.returns
unfolding added
returns c = (rw (ne_eqb _ _ c.if-found-eq-OTHER_VERSION.false, c.if-old.false, ne_eqb _ _ c.if-here-eq0.false, ne_eqb _ _ c.if-before-eq0.false), omega arith)
