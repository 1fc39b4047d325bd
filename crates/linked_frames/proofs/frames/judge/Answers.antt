use mathlib.Core.Path.{◌∙◌}
use native.Mathlib.Omega.{arith}
use Rattle.relocate.specs.Restore.{restore}
use Rattle.thread.specs.Thread.{thread_of}
use Rattle.linked_moves.specs.Code.{maps_in}
use Rattle.linked_frames.proofs.Judging.{judging_start, judging_few, judging_on, judging_stop, judging_end}
use Rattle.linked_frames.proofs.frames.judge.Goals as goal

pub loop-k-init : goal.loop-k-init
loop-k-init c =
    let a = c.args in
    let R = restore a.s.now a.olds.now a.news.now a.first a.settings in
    let th = thread_of a.machine a.frames.now a.registers.now in
    judging_start R (maps_in a.s.now) a.image.now th a.count

pub returns-then-m-ne0 : goal.returns-then-m-ne0
returns-then-m-ne0 c =
    let a = c.args in
    let R = restore a.s.now a.olds.now a.news.now a.first a.settings in
    let th = thread_of a.machine a.frames.now a.registers.now in
    let j = c.judge_frame-m in
    c.refused.ensures ∙ judging_stop R (maps_in a.s.now) a.image.now th a.count c.loop-k.invariant c.loop-k-test.true j.result j.ensures c.if-m-ne0.true

pub loop-k-preserved : goal.loop-k-preserved
loop-k-preserved c =
    let a = c.args in
    let R = restore a.s.now a.olds.now a.news.now a.first a.settings in
    let th = thread_of a.machine a.frames.now a.registers.now in
    let j = c.judge_frame-m in
    judging_on R (maps_in a.s.now) a.image.now th a.count c.loop-k.invariant c.loop-k-test.true j.result j.ensures c.requires.most_right c.if-m-ne0.false

pub returns : goal.returns
returns c =
    let a = c.args in
    let R = restore a.s.now a.olds.now a.news.now a.first a.settings in
    let th = thread_of a.machine a.frames.now a.registers.now in
    judging_end R (maps_in a.s.now) a.image.now th a.count c.loop-k.invariant c.loop-k-test.false

pub judge_frame-m-requires : goal.judge_frame-m-requires
judge_frame-m-requires c = (c.requires, c.loop-k-test.true)

pub overflow_add-sum : goal.overflow_add-sum
overflow_add-sum c =
    let a = c.args in
    let R = restore a.s.now a.olds.now a.news.now a.first a.settings in
    let th = thread_of a.machine a.frames.now a.registers.now in
    let j = c.judge_frame-m in
    let i = c.loop-k.invariant in
    let w = judging_few R (maps_in a.s.now) a.image.now th a.count i c.loop-k-test.true j.result j.ensures in
    omega (arith, w, i.few, i.most, c.requires.looked.most, c.requires.most_right)
