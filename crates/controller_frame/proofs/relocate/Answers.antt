use mathlib.Core.Path.{ap}
use Rattle.stackmap.specs.Verdict.{verdict}
use mathlib.Core.Path.{sym, ◌∙◌}
use Rattle.questions.proofs.Searched.{section-accepted}
use Rattle.relocate.specs.Restore.{restore}
use Rattle.relocate.specs.Stopped.{stopped}
use Rattle.controller.proofs.Profiles.{profile_searched}
use Rattle.controller.proofs.Steps.{control_refused, control_base}
use Rattle.controller_frame.proofs.relocate.Goals as goal

pub returns-then-of_section : goal.returns-then-of_section
returns-then-of_section c =
    let a = c.args in
    let r = c.records-found in
    let R = restore a.section.now a.olds.now a.news.now a.first a.settings in
    let h = profile_searched _ a.section.now a.frame.address r.result r.ensures (sym c.of_section.ensures ∙ c.if-of_section.true) in
    control_refused R a.image.now (stopped a.frame a.registers.now) h c.refused.ensures

pub of_accepted-requires : goal.of_accepted-requires
of_accepted-requires c =
    let r = c.records-found in
    section-accepted _ _ r.result r.ensures (sym c.of_section.ensures ∙ c.if-of_section.false)

pub relocate_found-requires : goal.relocate_found-requires
relocate_found-requires c = (c.records-found.ensures, sym c.of_section.ensures ∙ c.if-of_section.false, c.requires)

pub returns-in-Err : goal.returns-in-Err
returns-in-Err c =
    let a = c.args in
    let R = restore a.section.now a.olds.now a.news.now a.first a.settings in
    control_refused R a.image.now (stopped a.frame a.registers.now) (sym c.of_accepted.ensures ∙ ap verdict c.in-Err.is) (rw c.number.ensures at c.refused-in-Err.ensures)

pub returns-in-Ok : goal.returns-in-Ok
returns-in-Ok c =
    let a = c.args in
    let R = restore a.section.now a.olds.now a.news.now a.first a.settings in
    let h = sym c.of_accepted.ensures ∙ ap verdict c.in-Ok.is in
    control_base R a.image.now (stopped a.frame a.registers.now) h c.relocate_found.ensures
