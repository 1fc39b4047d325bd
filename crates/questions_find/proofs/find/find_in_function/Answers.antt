use mathlib.Core.Path.{◌≡◌, sym, ◌∙◌}
use mathlib.Core.Bool.{cond}
use native.Mathlib.Omega.{arith}
use lib.ListN.{length}
use Rattle.questions.specs.Questions.{not_found, first_of, of_function, by_function, sought}
use Rattle.stackmap.specs.Section.{is_old}
use Rattle.questions.proofs.Standing.{tables-inside}
use Rattle.questions.proofs.Searched.{asked, section-refused, section-accepted, first_found, named-sought}
use Rattle.questions_find.proofs.find.find_in_function.Goals as goal

pub returns-then-of_section : goal.returns-then-of_section
unfolding by_function
returns-then-of_section c = c.refused.ensures ∙ sym (section-refused c.args.s.now c.args.offset c.records-found.result c.records-found.ensures not_found _ (sym c.of_section.ensures ∙ c.if-of_section.true))

pub is_old-requires : goal.is_old-requires
is_old-requires c = let k = tables-inside c.args.s.now (length c.args.s.now) (section-accepted c.args.s.now c.args.offset c.records-found.result c.records-found.ensures (sym c.of_section.ensures ∙ c.if-of_section.false)) in omega arith

pub named-requires : goal.named-requires
named-requires c = let k = tables-inside c.args.s.now (length c.args.s.now) (section-accepted c.args.s.now c.args.offset c.records-found.result c.records-found.ensures (sym c.of_section.ensures ∙ c.if-of_section.false)) in omega arith

pub returns-then-is_old : goal.returns-then-is_old
unfolding by_function sought
returns-then-is_old c =
    let a = c.args in
    let r = c.records-found in
    let h = sym c.of_section.ensures ∙ c.if-of_section.false in
    let v = sym c.is_old.ensures ∙ c.if-is_old.true in
    let w : first_of (sought a.s.now a.function a.offset) ≡ cond (is_old a.s.now) (first_of (of_function a.s.now a.function a.offset)) (not_found 27 0) = rw v in
    c.named.ensures
    ∙ named-sought a.s.now a.function a.offset r.result (first_found a.s.now a.offset r.result r.ensures h)
    ∙ w
    ∙ sym (asked not_found _ a.s.now (section-accepted a.s.now a.offset r.result r.ensures h))

pub returns : goal.returns
unfolding by_function
returns c = c.refused-2.ensures ∙ sym (asked not_found _ c.args.s.now (section-accepted c.args.s.now c.args.offset c.records-found.result c.records-found.ensures (sym c.of_section.ensures ∙ c.if-of_section.false)) ∙ rw (sym c.is_old.ensures ∙ c.if-is_old.false))
