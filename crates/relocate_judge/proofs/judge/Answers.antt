use mathlib.Core.Path.{sym, ◌∙◌}
use native.Mathlib.Omega.{arith}
use lib.ListN.{length}
use Rattle.questions.proofs.Standing.{tables-inside}
use Rattle.questions.proofs.Searched.{section-accepted}
use Rattle.relocate.specs.Restore.{restore}
use Rattle.relocate.specs.Stopped.{stopped}
use Rattle.relocate_frame.proofs.Stages.{plan-section, plan_33, allowed-is}
use Rattle.relocate_judge.proofs.Leading.{section-number, refuses_at}
use Rattle.relocate_judge.proofs.judge.Goals as goal

pub returns-then-of_section : goal.returns-then-of_section
returns-then-of_section c =
    let a = c.args in
    let r = c.records-found in
    let R = restore a.section.now a.olds.now a.news.now a.first a.settings in
    let st = stopped a.frame a.registers.now in
    let o = sym c.of_section.ensures ∙ c.if-of_section.true in
    refuses_at R a.image.now st _ _ _ _ _ _ _ c.refused.ensures (plan-section R a.image.now st r.result r.ensures o) (section-number r.result o)

pub is_old-requires : goal.is_old-requires
is_old-requires c =
    let a = c.args in
    let r = c.records-found in
    let i = tables-inside a.section.now (length a.section.now) (section-accepted a.section.now a.frame.address r.result r.ensures (sym c.of_section.ensures ∙ c.if-of_section.false)) in
    omega arith

pub of_section-requires-2 : goal.of_section-requires-2
of_section-requires-2 c =
    let a = c.args in
    let R = restore a.section.now a.olds.now a.news.now a.first a.settings in (
      c.records-found.ensures,
      sym c.of_section.ensures ∙ c.if-of_section.false,
      allowed-is R a.frame.machine _ _ c.is_old.ensures c.allowed.ensures ∙ c.if-not-allowed.false,
      c.requires,
    )

pub returns : goal.returns
returns c = c.of_section-2.ensures

pub returns-then-not-allowed : goal.returns-then-not-allowed
returns-then-not-allowed c =
    let a = c.args in
    let r = c.records-found in
    let R = restore a.section.now a.olds.now a.news.now a.first a.settings in
    let st = stopped a.frame a.registers.now in
    let k = section-accepted a.section.now a.frame.address r.result r.ensures (sym c.of_section.ensures ∙ c.if-of_section.false) in
    let l = allowed-is R a.frame.machine _ _ c.is_old.ensures c.allowed.ensures ∙ c.if-not-allowed.true in
    refuses_at R a.image.now st _ _ _ _ 33 0 _ c.refused-then-not-allowed.ensures (plan_33 R a.image.now st k l) (λ z. absurd (omega arith))
