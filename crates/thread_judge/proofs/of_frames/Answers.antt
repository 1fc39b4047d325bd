use mathlib.Core.Path.{refl, ◌∙◌}
use Rattle.relocate.specs.Restore.{restore}
use Rattle.thread.specs.Thread.{thread_of, frames_from}
use Rattle.thread_call.proofs.Whole.{frames-refused, frames_26, frames-moved, each-sited}
use Rattle.thread_judge.proofs.of_frames.Goals as goal

pub returns-then-answer-ne0 : goal.returns-then-answer-ne0
returns-then-answer-ne0 c =
    let a = c.args in
    let R = restore a.s.now a.olds.now a.news.now a.first a.settings in
    let th = thread_of a.machine a.list.now a.registers.now in
    let j = c.judge_frames-answer in
    (frames-refused R a.image.now (frames_from th a.count 0) a.registers.now j.result j.ensures c.if-answer-ne0.true refl refl).answer_is

pub first_shared-shared-requires : goal.first_shared-shared-requires
first_shared-shared-requires c =
    let a = c.args in
    let R = restore a.s.now a.olds.now a.news.now a.first a.settings in
    let th = thread_of a.machine a.list.now a.registers.now in
    let j = c.judge_frames-answer in
    (c.requires.looked, c.requires.registers_right, each-sited R a.image.now c.requires.looked.section_right c.requires.image_right th a.count j.result j.ensures c.if-answer-ne0.false)

pub returns-then-shared-count : goal.returns-then-shared-count
returns-then-shared-count c =
    let a = c.args in
    let R = restore a.s.now a.olds.now a.news.now a.first a.settings in
    let th = thread_of a.machine a.list.now a.registers.now in
    let j = c.judge_frames-answer in
    c.refused.ensures
    ∙ (frames_26 R a.image.now (frames_from th a.count 0) a.registers.now j.result j.ensures c.if-answer-ne0.false a.count _ c.first_shared-shared.ensures.1 c.if-shared-count.true refl refl).answer_is

pub returns : goal.returns
returns c =
    let a = c.args in
    let R = restore a.s.now a.olds.now a.news.now a.first a.settings in
    let th = thread_of a.machine a.list.now a.registers.now in
    let j = c.judge_frames-answer in
    (frames-moved R a.image.now (frames_from th a.count 0) a.registers.now j.result j.ensures c.if-answer-ne0.false a.count _ c.first_shared-shared.ensures.1 c.if-shared-count.false refl refl).answer_is
