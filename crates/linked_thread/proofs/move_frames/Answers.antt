use mathlib.Core.Path.{refl}
use Rattle.relocate.specs.Restore.{restore}
use Rattle.thread.specs.Thread.{thread_of, frames_from}
use Rattle.linked_moves.specs.Code.{maps_in}
use Rattle.linked_thread.proofs.Whole.{frames-refused, frames_26, frames-moved, each-sited}
use Rattle.linked_thread.proofs.move_frames.Goals as goal

pub returns-then-judged-ne0 : goal.returns-then-judged-ne0
returns-then-judged-ne0 c =
    let a = c.args in
    let R = restore a.s.now a.olds.now a.news.now a.first a.settings in
    let ms = maps_in a.s.now in
    let th = thread_of a.machine a.list.now a.registers.now in
    let j = c.judge-judged in
    frames-refused R ms a.image.now (frames_from th a.count 0) a.registers.now j.result j.ensures c.if-judged-ne0.true refl refl

pub returns-then-shared-count : goal.returns-then-shared-count
returns-then-shared-count c =
    let a = c.args in
    let R = restore a.s.now a.olds.now a.news.now a.first a.settings in
    let ms = maps_in a.s.now in
    let th = thread_of a.machine a.list.now a.registers.now in
    let j = c.judge-judged in
    rw c.refused.ensures
    (frames_26 R ms a.image.now (frames_from th a.count 0) a.registers.now j.result j.ensures c.if-judged-ne0.false a.count _ c.first_shared-shared.ensures.1 c.if-shared-count.true refl refl)

pub returns : goal.returns
returns c =
    let a = c.args in
    let R = restore a.s.now a.olds.now a.news.now a.first a.settings in
    let ms = maps_in a.s.now in
    let th = thread_of a.machine a.list.now a.registers.now in
    let j = c.judge-judged in
    let m = c.move_all.ensures in
    frames-moved R ms a.image.now (frames_from th a.count 0) a.registers.now j.result j.ensures c.if-judged-ne0.false a.count _ c.first_shared-shared.ensures.1 c.if-shared-count.false m.0 m.1

pub judge-judged-requires : goal.judge-judged-requires
judge-judged-requires c = c.requires

pub first_shared-shared-requires : goal.first_shared-shared-requires
first_shared-shared-requires c =
    let a = c.args in
    let R = restore a.s.now a.olds.now a.news.now a.first a.settings in
    let ms = maps_in a.s.now in
    let th = thread_of a.machine a.list.now a.registers.now in
    let j = c.judge-judged in
    (c.requires.looked, c.requires.registers_right, each-sited R ms a.image.now c.requires.looked.standing c.requires.image_right th a.count j.result j.ensures c.if-judged-ne0.false)

pub move_all-requires : goal.move_all-requires
move_all-requires c = c.requires
