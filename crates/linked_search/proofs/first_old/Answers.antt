use mathlib.Core.Path.{sym, ap, ◌∙◌}
use mathlib.Core.Bool.{Bool, cond}
use borrow.Author.Tests.{ne_eqb}
use Rattle.linked_search.proofs.Cuts.{old_is}
use Rattle.linked_search.proofs.first_old.Goals as goal

pub returns-then-old-s : goal.returns-then-old-s
returns-then-old-s c = rw (ne_eqb _ _ c.if-old-s.true)

pub returns-then-is_old : goal.returns-then-is_old
returns-then-is_old c =
    let a = c.args in
    ap (λ (b : Bool). cond b a.at a.old) (sym c.if-is_old.true) ∙ old_is a.s.now a.at a.old _ c.is_old.ensures c.if-old-s.false

pub returns : goal.returns
returns c =
    let a = c.args in
    ap (λ (b : Bool). cond b a.at a.old) (sym c.if-is_old.false) ∙ old_is a.s.now a.at a.old _ c.is_old.ensures c.if-old-s.false
