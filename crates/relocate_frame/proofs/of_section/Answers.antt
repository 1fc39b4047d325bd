use mathlib.Core.Path.{sym, ap, ◌∙◌}
use native.Mathlib.Omega.{arith}
use lib.ListN.{length}
use Rattle.questions.proofs.Standing.{tables-inside}
use Rattle.questions.proofs.Searched.{section-accepted, first_found, named-sought}
use Rattle.questions.specs.Questions.{first_of, sought}
use Rattle.relocate.specs.Restore.{restore}
use Rattle.relocate.specs.Stopped.{stopped}
use Rattle.relocate_plan.proofs.Following.{refuses}
use Rattle.relocate_frame.proofs.Stages.{relocates, plan_13, plan_14, plan_25, plan-at, limited-entry, records-at, registers_32}
use Rattle.relocate_frame.proofs.of_section.Goals as goal

-- the refusals stand first, so that an edit of their order is refused there
pub returns-then-not-image_right : goal.returns-then-not-image_right
returns-then-not-image_right c =
    let a = c.args in
    let R = restore a.section.now a.olds.now a.news.now a.first a.settings in
    let st = stopped a.frame a.registers.now in
    let im = a.image.now in
    let k = section-accepted a.section.now a.frame.address a.found c.requires.0 c.requires.1 in
    relocates R im st _ _ _ (refuses _ _ _ _ _ _ 13 0 c.refused.ensures (plan_13 R im st k c.requires.2 (sym c.image_right.ensures ∙ c.if-not-image_right.true)))

pub returns-then-not-right : goal.returns-then-not-right
returns-then-not-right c =
    let a = c.args in
    let R = restore a.section.now a.olds.now a.news.now a.first a.settings in
    let st = stopped a.frame a.registers.now in
    let im = a.image.now in
    let k = section-accepted a.section.now a.frame.address a.found c.requires.0 c.requires.1 in
    relocates R im st _ _ _ (refuses _ _ _ _ _ _ 14 0 c.refused-then-not-right.ensures (plan_14 R im st k c.requires.2 (sym c.image_right.ensures ∙ c.if-not-image_right.false) (sym c.table_right-right.ensures ∙ c.if-not-right.true)))

pub returns-then-not-lent : goal.returns-then-not-lent
returns-then-not-lent c =
    let a = c.args in
    let R = restore a.section.now a.olds.now a.news.now a.first a.settings in
    let st = stopped a.frame a.registers.now in
    let im = a.image.now in
    let k = section-accepted a.section.now a.frame.address a.found c.requires.0 c.requires.1 in
    relocates R im st _ _ _
    (refuses _ _ _ _ _ _ 25 0 c.refused-then-not-lent.ensures (plan_25 R im st k c.requires.2 (sym c.image_right.ensures ∙ c.if-not-image_right.false) (cc) (sym c.registers_right-lent.ensures ∙ c.if-not-lent.true)))

pub returns : goal.returns
returns c =
    let a = c.args in
    let R = restore a.section.now a.olds.now a.news.now a.first a.settings in
    let st = stopped a.frame a.registers.now in
    let im = a.image.now in
    let k = section-accepted a.section.now a.frame.address a.found c.requires.0 c.requires.1 in
    relocates R im st _ _ _
    (rw (
      plan-at R im st k c.requires.2 (sym c.image_right.ensures ∙ c.if-not-image_right.false) (sym c.table_right-right.ensures ∙ c.if-not-right.false) (sym c.registers_right-lent.ensures ∙ c.if-not-lent.false) c.cursor-at.result c.cursor-at.ensures,
      ← limited-entry a.section.now a.olds.now a.news.now a.first a.settings (length im) c.cursor-at.result (sought a.section.now c.cursor-at.result.function c.cursor-at.result.address),
    )
    c.move_found.ensures)

pub named-named-requires : goal.named-named-requires
named-named-requires c =
    let a = c.args in
    let i = tables-inside a.section.now (length a.section.now) (section-accepted a.section.now a.frame.address a.found c.requires.0 c.requires.1) in
    omega arith

pub cursor-at-requires : goal.cursor-at-requires
cursor-at-requires c = registers_32 _ (sym c.registers_right-lent.ensures ∙ c.if-not-lent.false)

pub move_found-requires : goal.move_found-requires
move_found-requires c =
    let a = c.args in
    let R = restore a.section.now a.olds.now a.news.now a.first a.settings in
    let st = stopped a.frame a.registers.now in
    let im = a.image.now in
    let k = section-accepted a.section.now a.frame.address a.found c.requires.0 c.requires.1 in (
      k,
      c.named-named.ensures
          ∙ named-sought a.section.now a.frame.function a.frame.address a.found (first_found a.section.now a.frame.address a.found c.requires.0 c.requires.1)
          ∙ ap first_of (sym (records-at a.section.now st c.cursor-at.result c.cursor-at.ensures)),
      (sym c.image_right.ensures ∙ c.if-not-image_right.false),
      (sym c.table_right-right.ensures ∙ c.if-not-right.false),
      c.requires.3,
      registers_32 _ (sym c.registers_right-lent.ensures ∙ c.if-not-lent.false),
    )
