use mathlib.Core.Path.{ap}
use Rattle.stackmap.specs.Verdict.{verdict}
use mathlib.Core.Path.{sym, ◌∙◌}
use Rattle.relocate.specs.Restore.{restore}
use Rattle.thread.specs.Thread.{thread_of}
use Rattle.controller.proofs.Steps.{thread-refused, thread-base}
use Rattle.controller_thread.proofs.relocate_thread.Goals as goal

pub returns-in-Err : goal.returns-in-Err
returns-in-Err c =
    let a = c.args in
    let R = restore a.section.now a.olds.now a.news.now a.first a.settings in
    thread-refused R a.image.now (thread_of a.machine a.list.now a.registers.now) (sym c.check.ensures ∙ ap verdict c.in-Err.is) (rw c.number.ensures at c.refused.ensures)

pub returns-in-Ok : goal.returns-in-Ok
returns-in-Ok c =
    let a = c.args in
    let R = restore a.section.now a.olds.now a.news.now a.first a.settings in
    let h = sym c.check.ensures ∙ ap verdict c.in-Ok.is in
    thread-base R a.image.now (thread_of a.machine a.list.now a.registers.now) h c.relocate_thread.ensures
