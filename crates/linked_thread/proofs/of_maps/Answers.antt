use mathlib.Core.Path.{◌∙◌}
use Rattle.relocate.specs.Restore.{restore}
use Rattle.thread.specs.Thread.{thread_of}
use Rattle.linked_moves.specs.Code.{maps_in}
use Rattle.linked_thread.proofs.Whole.{allowed-is, thread_33}
use Rattle.linked_thread.proofs.of_maps.Goals as goal

pub returns-then-not-allowed : goal.returns-then-not-allowed
returns-then-not-allowed c =
    let a = c.args in
    let R = restore a.s.now a.olds.now a.news.now a.first a.settings in
    let ms = maps_in a.s.now in
    let th = thread_of a.machine a.list.now a.registers.now in
    rw c.refused.ensures (thread_33 R ms a.image.now th c.requires.0.standing (allowed-is R a.machine _ c.allowed.ensures ∙ c.if-not-allowed.true))

pub of_allowed-requires : goal.of_allowed-requires
of_allowed-requires c =
    let a = c.args in
    let R = restore a.s.now a.olds.now a.news.now a.first a.settings in
    (c.requires.0, c.requires.1, allowed-is R a.machine _ c.allowed.ensures ∙ c.if-not-allowed.false, c.requires.2)
