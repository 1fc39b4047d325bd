use mathlib.Core.Path.{refl, sym, ◌∙◌}
use native.Mathlib.Omega.{arith}
use lib.ListN.{length}
use Rattle.questions.proofs.Standing.{tables-inside}
use Rattle.questions.proofs.Searched.{asked, section-refused, section-accepted}
use Rattle.index.specs.Index.{index_of, not_listed, all_by_index}
use Rattle.index_check.proofs.Laws.{same-one}
use Rattle.index_find_all.proofs.Calls.{listed}
use Rattle.index_find_all.proofs.find_all_by_index.Goals as goal

pub returns-then-of_section : goal.returns-then-of_section
unfolding all_by_index
returns-then-of_section c =
    let a = c.args in
    listed (section-refused a.s.now 0 c.check-checked.result.found c.check-checked.ensures.0 (not_listed a.answers.now) _
    (sym c.of_section.ensures ∙ c.if-of_section.true))
    (record { number = c.refused.ensures.0; place = c.refused.ensures.1; written = c.refused.ensures.2; output = refl })

pub is_old-requires : goal.is_old-requires
is_old-requires c =
    let a = c.args in
    let k = tables-inside a.s.now (length a.s.now) (section-accepted a.s.now 0 c.check-checked.result.found c.check-checked.ensures.0 (sym c.of_section.ensures ∙ c.if-of_section.false)) in
    omega arith

pub returns-then-is_old : goal.returns-then-is_old
unfolding all_by_index
returns-then-is_old c =
    let a = c.args in
    let h = section-accepted a.s.now 0 c.check-checked.result.found c.check-checked.ensures.0
    (sym c.of_section.ensures ∙ c.if-of_section.false) in
    listed (asked (not_listed a.answers.now) _ a.s.now h ∙ rw (sym c.is_old.ensures ∙ c.if-is_old.true))
    (record { number = c.refused-then-is_old.ensures.0; place = c.refused-then-is_old.ensures.1; written = c.refused-then-is_old.ensures.2; output = refl })

pub answered-requires : goal.answered-requires
answered-requires c =
    let a = c.args in
    let h = section-accepted a.s.now 0 c.check-checked.result.found c.check-checked.ensures.0
    (sym c.of_section.ensures ∙ c.if-of_section.false) in
    let o = sym c.is_old.ensures ∙ c.if-is_old.false in
    (h, o, same-one a.index.now (index_of a.s.now) (sym (c.check-checked.ensures.1 h o) ∙ c.if-checked.true))

pub returns-then-checked : goal.returns-then-checked
unfolding all_by_index
returns-then-checked c =
    let a = c.args in
    let h = section-accepted a.s.now 0 c.check-checked.result.found
    c.check-checked.ensures.0
    (sym c.of_section.ensures ∙ c.if-of_section.false) in
    let o = sym c.is_old.ensures ∙ c.if-is_old.false in
    let r = sym (c.check-checked.ensures.1 h o) ∙ c.if-checked.true in
    listed (asked (not_listed a.answers.now) _ a.s.now h ∙ rw (o, r)) c.answered.ensures

pub returns : goal.returns
unfolding all_by_index
returns c =
    let a = c.args in
    let h = section-accepted a.s.now 0 c.check-checked.result.found c.check-checked.ensures.0
    (sym c.of_section.ensures ∙ c.if-of_section.false) in
    let o = sym c.is_old.ensures ∙ c.if-is_old.false in
    let r = sym (c.check-checked.ensures.1 h o) ∙ c.if-checked.false in
    listed (asked (not_listed a.answers.now) _ a.s.now h ∙ rw (o, r))
    (record { number = c.refused-2.ensures.0; place = c.refused-2.ensures.1; written = c.refused-2.ensures.2; output = refl })
