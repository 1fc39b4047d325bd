use mathlib.Core.Path.{sym, ◌∙◌}
use native.Mathlib.Omega.{arith}
use lib.ListN.{length}
use Rattle.questions.specs.Questions.{not_found}
use Rattle.questions.proofs.Standing.{tables-inside}
use Rattle.questions.proofs.Searched.{asked, section-refused, section-accepted, first_found}
use Rattle.index.specs.Index.{by_index}
use Rattle.index_find.proofs.find_by_index.Goals as goal

pub returns-then-of_section : goal.returns-then-of_section
unfolding by_index
returns-then-of_section c =
    let a = c.args in
    c.refused.ensures ∙ sym (section-refused a.s.now a.address c.check-checked.result.found c.check-checked.ensures.0 not_found _
    (sym c.of_section.ensures ∙ c.if-of_section.true))

pub is_old-requires : goal.is_old-requires
is_old-requires c =
    let a = c.args in
    let k = tables-inside a.s.now (length a.s.now) (section-accepted a.s.now a.address c.check-checked.result.found c.check-checked.ensures.0
    (sym c.of_section.ensures ∙ c.if-of_section.false)) in
    omega arith

pub returns-then-is_old : goal.returns-then-is_old
unfolding by_index
returns-then-is_old c =
    let a = c.args in
    let h = section-accepted a.s.now a.address c.check-checked.result.found c.check-checked.ensures.0
    (sym c.of_section.ensures ∙ c.if-of_section.false) in
    c.refused-then-is_old.ensures ∙ sym (asked not_found _ a.s.now h ∙ rw (sym c.is_old.ensures ∙ c.if-is_old.true))

pub returns-then-checked : goal.returns-then-checked
unfolding by_index
returns-then-checked c =
    let a = c.args in
    let u = sym c.of_section.ensures ∙ c.if-of_section.false in
    let h = section-accepted a.s.now a.address c.check-checked.result.found c.check-checked.ensures.0 u in
    let o = sym c.is_old.ensures ∙ c.if-is_old.false in
    let r = sym (c.check-checked.ensures.1 h o) ∙ c.if-checked.true in
    first_found a.s.now a.address c.check-checked.result.found c.check-checked.ensures.0 u ∙ sym (asked not_found _ a.s.now h ∙ rw (o, r))

pub returns : goal.returns
unfolding by_index
returns c =
    let a = c.args in
    let u = sym c.of_section.ensures ∙ c.if-of_section.false in
    let h = section-accepted a.s.now a.address c.check-checked.result.found c.check-checked.ensures.0 u in
    let o = sym c.is_old.ensures ∙ c.if-is_old.false in
    let r = sym (c.check-checked.ensures.1 h o) ∙ c.if-checked.false in
    c.refused-2.ensures ∙ sym (asked not_found _ a.s.now h ∙ rw (o, r))
