use mathlib.Core.Path.{sym, ◌∙◌}
use native.Mathlib.Omega.{arith}
use lib.ListN.{length}
use Rattle.moves.specs.Settle.{refused_move}
use Rattle.questions.proofs.Standing.{tables-inside}
use Rattle.questions.proofs.Searched.{section-refused, section-accepted}
use Rattle.relocate.specs.Restore.{restore}
use Rattle.relocate_frame.proofs.Stages.{allowed-is}
use Rattle.thread_index.specs.ByIndex.{thread_by_index_answer}
use Rattle.thread_index.proofs.Laws.{own_number, refused_so, by_33}
use Rattle.thread.specs.Thread.{thread_of}
use Rattle.thread_index.proofs.relocate_thread_by_index.Goals as goal

pub returns-then-of_section : goal.returns-then-of_section
unfolding thread_by_index_answer
returns-then-of_section c =
    let a = c.args in
    let f = c.check-checked.result.found in
    let R = restore a.section.now a.olds.now a.news.now a.first a.settings in
    let th = thread_of a.machine a.list.now a.registers.now in
    let o = sym c.of_section.ensures ∙ c.if-of_section.true in
    refused_so R a.image.now a.index.now th f.number f.place (own_number f o) c.refused.ensures (section-refused a.section.now 0 f c.check-checked.ensures.0 refused_move _ o)

pub returns : goal.returns
returns c =
    let a = c.args in
    let f = c.check-checked.result.found in
    let R = restore a.section.now a.olds.now a.news.now a.first a.settings in
    let th = thread_of a.machine a.list.now a.registers.now in
    let h = section-accepted a.section.now 0 f c.check-checked.ensures.0 (sym c.of_section.ensures ∙ c.if-of_section.false) in
    refused_so R a.image.now a.index.now th 33 0 (λ z. omega arith) c.refused-2.ensures (by_33 R a.image.now a.index.now th h (allowed-is R a.machine _ _ c.is_old.ensures c.allowed.ensures ∙ c.if-allowed.false))

pub returns-then-allowed : goal.returns-then-allowed
returns-then-allowed c = c.of_checked.ensures

pub is_old-requires : goal.is_old-requires
is_old-requires c =
    let a = c.args in
    let f = c.check-checked.result.found in
    let i = tables-inside a.section.now (length a.section.now) (section-accepted a.section.now 0 f c.check-checked.ensures.0 (sym c.of_section.ensures ∙ c.if-of_section.false)) in
    omega arith

pub of_checked-requires : goal.of_checked-requires
of_checked-requires c =
    let a = c.args in
    let f = c.check-checked.result.found in
    let R = restore a.section.now a.olds.now a.news.now a.first a.settings in
    let th = thread_of a.machine a.list.now a.registers.now in
    let h = section-accepted a.section.now 0 f c.check-checked.ensures.0 (sym c.of_section.ensures ∙ c.if-of_section.false) in
    (h, allowed-is R a.machine _ _ c.is_old.ensures c.allowed.ensures ∙ c.if-allowed.true, c.check-checked.ensures.1 h, c.requires)
