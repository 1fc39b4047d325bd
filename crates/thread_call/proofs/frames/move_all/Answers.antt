use native.Mathlib.Omega.{arith}
use Rattle.relocate.specs.Restore.{restore}
use Rattle.thread_call.proofs.Moving.{moving_start, moving_on, moving_end}
use Rattle.thread_call.proofs.frames.move_all.Goals as goal

pub loop-next-init : goal.loop-next-init
loop-next-init c =
    let a = c.args in
    moving_start (restore a.s.now a.olds.now a.news.now a.first a.settings) a.image.now a.machine a.frames.now a.registers.now a.count

pub settle_frame-requires : goal.settle_frame-requires
settle_frame-requires c =
    let inv = c.loop-next.invariant in
    (rw (inv.long, inv.wide) c.requires, c.loop-next-test.true)

pub loop-next-preserved : goal.loop-next-preserved
loop-next-preserved c =
    let a = c.args in
    let m = c.settle_frame in
    moving_on (restore a.s.now a.olds.now a.news.now a.first a.settings) a.image.now a.machine a.frames.now a.registers.now a.count c.requires.registers_right c.loop-next.invariant c.loop-next-test.true m.ensures.1 m.ensures.2
    m.auto.image m.auto.registers

pub shape_of-image : goal.shape_of-image
shape_of-image c = c.loop-next.invariant.long

pub shape_of-registers : goal.shape_of-registers
shape_of-registers c = c.loop-next.invariant.wide

pub returns : goal.returns
returns c =
    let a = c.args in
    moving_end (restore a.s.now a.olds.now a.news.now a.first a.settings) a.image.now a.machine a.frames.now a.registers.now a.count c.requires.registers_right c.loop-next.invariant c.loop-next-test.false
