use mathlib.Core.Path.{sym, ◌∙◌}
use native.Mathlib.Omega.{arith}
use lib.ListN.{length}
use Rattle.questions.proofs.Standing.{tables-inside}
use Rattle.relocate.specs.Restore.{restore}
use Rattle.thread.specs.Thread.{thread_of}
use Rattle.thread_index.proofs.Laws.{refused_so, moved_so, by_13, by_14, by_27, by_29, by_call}
use Rattle.thread_index.proofs.of_checked.Goals as goal

-- the refusals stand first, so that an edit of their order is refused there
pub returns : goal.returns
returns c =
    let a = c.args in
    let R = restore a.section.now a.olds.now a.news.now a.first a.settings in
    let th = thread_of a.machine a.list.now a.registers.now in
    refused_so R a.image.now a.index.now th 13 0 (λ z. omega arith) c.refused-2.ensures (by_13 R a.image.now a.index.now th c.requires.0 c.requires.1 (sym c.image_right.ensures ∙ c.if-image_right.false))

pub returns-then-image_right : goal.returns-then-image_right
returns-then-image_right c =
    let a = c.args in
    let R = restore a.section.now a.olds.now a.news.now a.first a.settings in
    let th = thread_of a.machine a.list.now a.registers.now in
    refused_so R a.image.now a.index.now th 14 0 (λ z. omega arith) c.refused-then-image_right.ensures (by_14 R a.image.now a.index.now th c.requires.0 c.requires.1 (sym c.image_right.ensures ∙ c.if-image_right.true) (sym c.table_right.ensures ∙ c.if-table_right.false))

pub returns-then-is_old : goal.returns-then-is_old
returns-then-is_old c =
    let a = c.args in
    let R = restore a.section.now a.olds.now a.news.now a.first a.settings in
    let th = thread_of a.machine a.list.now a.registers.now in
    refused_so R a.image.now a.index.now th 27 0 (λ z. omega arith) c.refused.ensures (by_27 R a.image.now a.index.now th c.requires.0 c.requires.1 (sym c.image_right.ensures ∙ c.if-image_right.true) (sym c.table_right.ensures ∙ c.if-table_right.true) (sym c.is_old.ensures ∙ c.if-is_old.true))

pub returns-then-table_right : goal.returns-then-table_right
returns-then-table_right c =
    let a = c.args in
    let R = restore a.section.now a.olds.now a.news.now a.first a.settings in
    let th = thread_of a.machine a.list.now a.registers.now in
    let o = (sym c.is_old.ensures ∙ c.if-is_old.false) in
    let r = sym (c.requires.2 o) ∙ c.if-right.false in
    refused_so R a.image.now a.index.now th 29 0 (λ z. omega arith) c.refused-then-table_right.ensures (by_29 R a.image.now a.index.now th c.requires.0 c.requires.1 (sym c.image_right.ensures ∙ c.if-image_right.true) (sym c.table_right.ensures ∙ c.if-table_right.true) o r)

pub returns-then-right : goal.returns-then-right
returns-then-right c =
    let a = c.args in
    let R = restore a.section.now a.olds.now a.news.now a.first a.settings in
    let th = thread_of a.machine a.list.now a.registers.now in
    let o = (sym c.is_old.ensures ∙ c.if-is_old.false) in
    let r = sym (c.requires.2 o) ∙ c.if-right.true in
    moved_so R a.image.now a.index.now th (by_call R a.image.now a.index.now th c.requires.0 c.requires.1 (sym c.image_right.ensures ∙ c.if-image_right.true) (sym c.table_right.ensures ∙ c.if-table_right.true) o r) c.relocate_thread.ensures

pub is_old-requires : goal.is_old-requires
is_old-requires c =
    let i = tables-inside c.args.section.now (length c.args.section.now) c.requires.0 in
    omega arith

pub relocate_thread-requires : goal.relocate_thread-requires
relocate_thread-requires c = c.requires.3
