use mathlib.Core.Path.{refl, sym, ◌∙◌}
use Rattle.relocate.specs.Restore.{restore}
use Rattle.thread.specs.Thread.{thread_of}
use Rattle.thread.proofs.Parts.{right_tells}
use Rattle.thread_call.proofs.Whole.{thread_13, thread_14, thread_25, thread-frames}
use Rattle.thread_judge.proofs.of_section.Goals as goal

pub of_frames-requires : goal.of_frames-requires
of_frames-requires c =
    let a = c.args in
    let l = sym c.list_right.ensures ∙ c.if-not-list_right.false in
    record {
      looked = c.requires.0;
      allowed_right = c.requires.2;
      most_right = c.requires.3;
      image_right = sym c.image_right.ensures ∙ c.if-not-image_right.false;
      table_right = sym c.table_right.ensures ∙ c.if-not-table_right.false;
      registers_right = rw (c.requires.1 l) (right_tells a.list.now a.registers.now l).1;
    }

pub returns : goal.returns
returns c =
    let a = c.args in
    let R = restore a.s.now a.olds.now a.news.now a.first a.settings in
    let th = thread_of a.machine a.list.now a.registers.now in
    let l = sym c.list_right.ensures ∙ c.if-not-list_right.false in
    let i = sym c.image_right.ensures ∙ c.if-not-image_right.false in
    let t = sym c.table_right.ensures ∙ c.if-not-table_right.false in
    (thread-frames R a.image.now th c.requires.0.section_right c.requires.2 i t a.count _ _ _ l (c.requires.1 l)
    (record { answer_is = c.of_frames.ensures; image_is = refl; registers_is = refl })).answer_is

pub returns-then-not-list_right : goal.returns-then-not-list_right
returns-then-not-list_right c =
    let a = c.args in
    let R = restore a.s.now a.olds.now a.news.now a.first a.settings in
    let th = thread_of a.machine a.list.now a.registers.now in
    let i = sym c.image_right.ensures ∙ c.if-not-image_right.false in
    let t = sym c.table_right.ensures ∙ c.if-not-table_right.false in
    c.refused-then-not-list_right.ensures ∙ (thread_25 R a.image.now th c.requires.0.section_right c.requires.2 i t (sym c.list_right.ensures ∙ c.if-not-list_right.true)).answer_is

pub returns-then-not-table_right : goal.returns-then-not-table_right
returns-then-not-table_right c =
    let a = c.args in
    let R = restore a.s.now a.olds.now a.news.now a.first a.settings in
    let th = thread_of a.machine a.list.now a.registers.now in
    let i = sym c.image_right.ensures ∙ c.if-not-image_right.false in
    c.refused-then-not-table_right.ensures ∙ (thread_14 R a.image.now th c.requires.0.section_right c.requires.2 i (sym c.table_right.ensures ∙ c.if-not-table_right.true)).answer_is

pub returns-then-not-image_right : goal.returns-then-not-image_right
returns-then-not-image_right c =
    let a = c.args in
    let R = restore a.s.now a.olds.now a.news.now a.first a.settings in
    let th = thread_of a.machine a.list.now a.registers.now in
    c.refused.ensures ∙ (thread_13 R a.image.now th c.requires.0.section_right c.requires.2 (sym c.image_right.ensures ∙ c.if-not-image_right.true)).answer_is
