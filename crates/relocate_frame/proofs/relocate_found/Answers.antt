use mathlib.Core.Path.{◌∙◌}
use native.Mathlib.Omega.{arith}
use lib.ListN.{length}
use Rattle.questions.proofs.Standing.{tables-inside}
use Rattle.questions.proofs.Searched.{section-accepted}
use Rattle.relocate.specs.Restore.{restore}
use Rattle.relocate.specs.Stopped.{stopped}
use Rattle.relocate_plan.proofs.Following.{refuses}
use Rattle.relocate_frame.proofs.Stages.{relocates, plan_33, allowed-is}
use Rattle.relocate_frame.proofs.relocate_found.Goals as goal

pub is_old-requires : goal.is_old-requires
is_old-requires c =
    let a = c.args in
    let i = tables-inside a.section.now (length a.section.now) (section-accepted a.section.now a.frame.address a.found c.requires.0 c.requires.1) in
    omega arith

pub of_section-requires : goal.of_section-requires
of_section-requires c =
    let a = c.args in
    let R = restore a.section.now a.olds.now a.news.now a.first a.settings in
    (c.requires.0, c.requires.1, allowed-is R a.frame.machine _ _ c.is_old.ensures c.allowed.ensures ∙ c.if-not-allowed.false, c.requires.2)

pub returns : goal.returns
returns c = c.of_section.ensures

pub returns-then-not-allowed : goal.returns-then-not-allowed
returns-then-not-allowed c =
    let a = c.args in
    let R = restore a.section.now a.olds.now a.news.now a.first a.settings in
    let st = stopped a.frame a.registers.now in
    let im = a.image.now in
    let k = section-accepted a.section.now a.frame.address a.found c.requires.0 c.requires.1 in
    relocates R im st _ _ _ (refuses _ _ _ _ _ _ 33 0 c.refused.ensures (plan_33 R im st k (allowed-is R a.frame.machine _ _ c.is_old.ensures c.allowed.ensures ∙ c.if-not-allowed.true)))
