use mathlib.Core.Path.{sym, ◌∙◌}
use Rattle.relocate.specs.Restore.{restore}
use Rattle.relocate.specs.Stopped.{stopped}
use Rattle.relocate_plan.proofs.Following.{refuses}
use Rattle.relocate_frame.proofs.Stages.{relocates, plan-section}
use Rattle.relocate_frame.proofs.relocate.Goals as goal

pub returns-then-of_section : goal.returns-then-of_section
returns-then-of_section c =
    let a = c.args in
    let r = c.records-found in
    let R = restore a.section.now a.olds.now a.news.now a.first a.settings in
    let st = stopped a.frame a.registers.now in
    let im = a.image.now in
    relocates R im st _ _ _ (refuses _ _ _ _ _ _ _ _ c.refused.ensures (plan-section R im st r.result r.ensures (sym c.of_section.ensures ∙ c.if-of_section.true)))

pub relocate_found-requires : goal.relocate_found-requires
relocate_found-requires c = (c.records-found.ensures, sym c.of_section.ensures ∙ c.if-of_section.false, c.requires)

pub returns : goal.returns
returns c = c.relocate_found.ensures
