use mathlib.Core.Path.{sym, ap, ◌∙◌}
use native.Mathlib.Omega.{arith}
use lib.ListN.{length}
use Rattle.questions.proofs.Standing.{tables-inside}
use Rattle.questions.proofs.Searched.{section-accepted, first_found, named-sought}
use Rattle.questions.specs.Questions.{first_of, sought}
use Rattle.relocate.specs.Restore.{restore}
use Rattle.relocate.specs.Stopped.{stopped}
use Rattle.relocate_frame.proofs.Stages.{plan_13, plan_14, plan_25, plan-at, limited-entry, records-at, registers_32}
use Rattle.relocate_judge.proofs.Leading.{refuses_at, judged-cursor}
use Rattle.relocate_judge.proofs.of_section.Goals as goal

pub named-named-requires : goal.named-named-requires
named-named-requires c =
    let a = c.args in
    let i = tables-inside a.section.now (length a.section.now) (section-accepted a.section.now a.frame.address a.found c.requires.0 c.requires.1) in
    omega arith

pub cursor-at-requires : goal.cursor-at-requires
cursor-at-requires c = registers_32 _ (sym c.registers_right.ensures ∙ c.if-not-registers_right.false)

pub judge_found-requires : goal.judge_found-requires
judge_found-requires c =
    let a = c.args in
    let st = stopped a.frame a.registers.now in (
      section-accepted a.section.now a.frame.address a.found c.requires.0 c.requires.1,
      c.named-named.ensures
          ∙ named-sought a.section.now a.frame.function a.frame.address a.found (first_found a.section.now a.frame.address a.found c.requires.0 c.requires.1)
          ∙ ap first_of (sym (records-at a.section.now st c.cursor-at.result c.cursor-at.ensures)),
      sym c.image_right.ensures ∙ c.if-not-image_right.false,
      sym c.table_right.ensures ∙ c.if-not-table_right.false,
      c.requires.3,
      registers_32 _ (sym c.registers_right.ensures ∙ c.if-not-registers_right.false),
    )

pub returns : goal.returns
returns c =
    let a = c.args in
    let R = restore a.section.now a.olds.now a.news.now a.first a.settings in
    let st = stopped a.frame a.registers.now in
    let k = section-accepted a.section.now a.frame.address a.found c.requires.0 c.requires.1 in
    let f = c.cursor-at.result in
    let i = sym c.image_right.ensures ∙ c.if-not-image_right.false in
    let t = sym c.table_right.ensures ∙ c.if-not-table_right.false in
    let g = sym c.registers_right.ensures ∙ c.if-not-registers_right.false in
    judged-cursor R a.image.now st f _ _ _ _ _ c.cursor-at.ensures
    (c.judge_found.ensures a.frame a.settings c.cursor-at.ensures
    (plan-at R a.image.now st k c.requires.2 i t g f c.cursor-at.ensures
    ∙ sym (limited-entry a.section.now a.olds.now a.news.now a.first a.settings (length a.image.now) f (sought a.section.now f.function f.address))))

pub returns-then-not-registers_right : goal.returns-then-not-registers_right
returns-then-not-registers_right c =
    let a = c.args in
    let R = restore a.section.now a.olds.now a.news.now a.first a.settings in
    let st = stopped a.frame a.registers.now in
    let k = section-accepted a.section.now a.frame.address a.found c.requires.0 c.requires.1 in
    let i = sym c.image_right.ensures ∙ c.if-not-image_right.false in
    let t = sym c.table_right.ensures ∙ c.if-not-table_right.false in
    refuses_at R a.image.now st _ _ _ _ 25 0 _ c.refused-then-not-registers_right.ensures (plan_25 R a.image.now st k c.requires.2 i t (sym c.registers_right.ensures ∙ c.if-not-registers_right.true)) (λ z. absurd (omega arith))

pub returns-then-not-table_right : goal.returns-then-not-table_right
returns-then-not-table_right c =
    let a = c.args in
    let R = restore a.section.now a.olds.now a.news.now a.first a.settings in
    let st = stopped a.frame a.registers.now in
    let k = section-accepted a.section.now a.frame.address a.found c.requires.0 c.requires.1 in
    let i = sym c.image_right.ensures ∙ c.if-not-image_right.false in
    refuses_at R a.image.now st _ _ _ _ 14 0 _ c.refused-then-not-table_right.ensures (plan_14 R a.image.now st k c.requires.2 i (sym c.table_right.ensures ∙ c.if-not-table_right.true)) (λ z. absurd (omega arith))

pub returns-then-not-image_right : goal.returns-then-not-image_right
returns-then-not-image_right c =
    let a = c.args in
    let R = restore a.section.now a.olds.now a.news.now a.first a.settings in
    let st = stopped a.frame a.registers.now in
    let k = section-accepted a.section.now a.frame.address a.found c.requires.0 c.requires.1 in
    refuses_at R a.image.now st _ _ _ _ 13 0 _ c.refused.ensures (plan_13 R a.image.now st k c.requires.2 (sym c.image_right.ensures ∙ c.if-not-image_right.true)) (λ z. absurd (omega arith))
