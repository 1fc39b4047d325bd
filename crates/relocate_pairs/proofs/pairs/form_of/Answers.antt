use mathlib.Core.Path.{sym, ◌∙◌}
use native.Mathlib.Omega.{arith}
use Rattle.relocate_glance.proofs.Laws.{plain_form, plain-count}
use Rattle.relocate_pairs.proofs.pairs.form_of.Goals as goal

pub returns-then-plain : goal.returns-then-plain
returns-then-plain c =
    let q = c.plain.ensures c.if-plain.true in
    record { right = sym (plain_form _ _ _ q _); counted = (sym (plain-count _ _ _ q _), omega arith) }

pub returns-then-right_form : goal.returns-then-right_form
returns-then-right_form c = record { right = sym c.if-right_form.true ∙ c.right_form.ensures; counted = c.pointers_of.ensures }

pub returns : goal.returns
returns c = record { right = sym c.if-right_form.false ∙ c.right_form.ensures; counted = tt }
