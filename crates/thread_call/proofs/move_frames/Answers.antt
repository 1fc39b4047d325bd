use Rattle.relocate.specs.Restore.{restore}
use Rattle.thread.specs.Thread.{thread_of, frames_from}
use Rattle.thread_call.proofs.Whole.{frames-refused, frames_26, frames-moved, each-sited}
use Rattle.thread_call.proofs.move_frames.Goals as goal

pub returns-then-judged-ne0 : goal.returns-then-judged-ne0
returns-then-judged-ne0 c =
    let a = c.args in
    let R = restore a.s.now a.olds.now a.news.now a.first a.settings in
    let th = thread_of a.machine a.list.now a.registers.now in
    let j = c.judge-judged in
    frames-refused R a.image.now (frames_from th a.count 0) a.registers.now j.result j.ensures.0 c.if-judged-ne0.true j.ensures.1 j.ensures.2

pub first_shared-shared-requires : goal.first_shared-shared-requires
first_shared-shared-requires c =
    let a = c.args in
    let R = restore a.s.now a.olds.now a.news.now a.first a.settings in
    let th = thread_of a.machine a.list.now a.registers.now in
    let j = c.judge-judged in
    let e = each-sited R a.image.now c.requires.looked.section_right c.requires.image_right th a.count j.result j.ensures.0 c.if-judged-ne0.false in
    (c.requires.looked, rw j.ensures.2 c.requires.registers_right, rw j.ensures.2 e)

pub returns-then-shared-count : goal.returns-then-shared-count
returns-then-shared-count c =
    let a = c.args in
    let R = restore a.s.now a.olds.now a.news.now a.first a.settings in
    let th = thread_of a.machine a.list.now a.registers.now in
    let j = c.judge-judged in
    let p = rw j.ensures.2 at c.first_shared-shared.ensures.1 in
    rw c.refused.ensures
    (frames_26 R a.image.now (frames_from th a.count 0) a.registers.now j.result j.ensures.0 c.if-judged-ne0.false a.count _ p c.if-shared-count.true
    j.ensures.1 j.ensures.2)

pub move_all-requires : goal.move_all-requires
move_all-requires c = let j = c.judge-judged in rw (j.ensures.1, j.ensures.2) c.requires

pub returns : goal.returns
returns c =
    let a = c.args in
    let R = restore a.s.now a.olds.now a.news.now a.first a.settings in
    let th = thread_of a.machine a.list.now a.registers.now in
    let j = c.judge-judged in
    let p = rw j.ensures.2 at c.first_shared-shared.ensures.1 in
    let m = rw (j.ensures.1, j.ensures.2) at c.move_all.ensures in
    frames-moved R a.image.now (frames_from th a.count 0) a.registers.now j.result j.ensures.0 c.if-judged-ne0.false a.count _ p c.if-shared-count.false
    m.0 m.1
