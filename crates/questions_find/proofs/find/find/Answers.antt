use mathlib.Core.Path.{sym, ◌∙◌}
use native.Mathlib.Omega.{arith}
use lib.ListN.{length}
use Rattle.questions.specs.Questions.{not_found, by_address}
use Rattle.questions.proofs.Standing.{tables-inside}
use Rattle.questions.proofs.Searched.{asked, section-refused, section-accepted, first_found}
use Rattle.questions_find.proofs.find.find.Goals as goal

pub returns-then-of_section : goal.returns-then-of_section
unfolding by_address
returns-then-of_section c = c.refused.ensures ∙ sym (section-refused c.args.s.now c.args.address c.records-found.result c.records-found.ensures not_found _ (sym c.of_section.ensures ∙ c.if-of_section.true))

pub is_old-requires : goal.is_old-requires
is_old-requires c = let k = tables-inside c.args.s.now (length c.args.s.now) (section-accepted c.args.s.now c.args.address c.records-found.result c.records-found.ensures (sym c.of_section.ensures ∙ c.if-of_section.false)) in omega arith

pub returns-then-is_old : goal.returns-then-is_old
unfolding by_address
returns-then-is_old c = c.refused-then-is_old.ensures ∙ sym (asked not_found _ c.args.s.now (section-accepted c.args.s.now c.args.address c.records-found.result c.records-found.ensures (sym c.of_section.ensures ∙ c.if-of_section.false)) ∙ rw (sym c.is_old.ensures ∙ c.if-is_old.true))

pub returns : goal.returns
unfolding by_address
returns c = let h = sym c.of_section.ensures ∙ c.if-of_section.false in first_found c.args.s.now c.args.address c.records-found.result c.records-found.ensures h ∙ sym (asked not_found _ c.args.s.now (section-accepted c.args.s.now c.args.address c.records-found.result c.records-found.ensures h) ∙ rw (sym c.is_old.ensures ∙ c.if-is_old.false))
