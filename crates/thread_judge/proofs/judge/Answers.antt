use mathlib.Core.Path.{◌∙◌}
use native.Mathlib.Omega.{arith}
use lib.ListN.{length}
use Rattle.questions.proofs.Standing.{tables-inside}
use Rattle.relocate.specs.Restore.{restore}
use Rattle.relocate_frame.proofs.Stages.{allowed-is}
use Rattle.thread.specs.Thread.{thread_of}
use Rattle.thread_call.proofs.Whole.{thread_33}
use Rattle.thread_judge.proofs.judge.Goals as goal

pub is_old-requires : goal.is_old-requires
is_old-requires c =
    let i = tables-inside c.args.s.now (length c.args.s.now) c.requires.0.section_right in
    omega arith

pub of_section-requires : goal.of_section-requires
of_section-requires c =
    let a = c.args in
    let R = restore a.s.now a.olds.now a.news.now a.first a.settings in
    (c.requires.0, c.requires.1, allowed-is R a.machine _ _ c.is_old.ensures c.allowed.ensures ∙ c.if-not-allowed.false, c.requires.2)

pub returns : goal.returns
returns c = c.of_section.ensures

pub returns-then-not-allowed : goal.returns-then-not-allowed
returns-then-not-allowed c =
    let a = c.args in
    let R = restore a.s.now a.olds.now a.news.now a.first a.settings in
    let th = thread_of a.machine a.list.now a.registers.now in
    c.refused.ensures
    ∙ (thread_33 R a.image.now th c.requires.0.section_right (allowed-is R a.machine _ _ c.is_old.ensures c.allowed.ensures ∙ c.if-not-allowed.true)).answer_is
