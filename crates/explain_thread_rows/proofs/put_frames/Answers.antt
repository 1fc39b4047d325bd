use native.Mathlib.Omega.{arith}
use Rattle.relocate.specs.Restore.{restore}
use Rattle.thread.specs.Thread.{thread_of}
use Rattle.explain_thread_rows.proofs.Lent.{pointers_few}
use Rattle.explain_frames.proofs.Going.{going_start, going_room, going_yes, going_on, going_end}
use Rattle.explain_thread_rows.proofs.put_frames.Goals as goal

pub loop-k-init : goal.loop-k-init
loop-k-init c =
    let a = c.args in
    let R = restore a.s.now a.olds.now a.news.now a.first a.settings in
    let th = thread_of a.machine a.frames.now a.registers.now in
    going_start R a.image.now th a.count _ c.requires.1

pub put_frame-to-requires : goal.put_frame-to-requires
put_frame-to-requires c =
    let a = c.args in
    let R = restore a.s.now a.olds.now a.news.now a.first a.settings in
    let th = thread_of a.machine a.frames.now a.registers.now in
    let l = c.loop-k in
    let t = c.loop-k-test.true in (
      c.requires.0,
      t,
      going_yes R a.image.now th a.count _ _ l.k l.to l.invariant t,
      going_room R a.image.now th a.count _ _ l.k l.to l.invariant t c.requires.2,
      omega
          (arith, l.invariant.fits, pointers_few R a.image.now th c.requires.0.most_right a.count 0, c.requires.0.looked.most),
    )

pub loop-k-preserved : goal.loop-k-preserved
loop-k-preserved c =
    let a = c.args in
    let R = restore a.s.now a.olds.now a.news.now a.first a.settings in
    let th = thread_of a.machine a.frames.now a.registers.now in
    let l = c.loop-k in
    going_on R a.image.now th a.count _ _ l.k l.to l.invariant (omega arith) _ _ c.put_frame-to.ensures.0 c.put_frame-to.ensures.1

pub shape_of-rows : goal.shape_of-rows
shape_of-rows c = c.loop-k.invariant.wide

pub returns : goal.returns
returns c =
    let a = c.args in
    let R = restore a.s.now a.olds.now a.news.now a.first a.settings in
    let th = thread_of a.machine a.frames.now a.registers.now in
    going_end R a.image.now th a.count _ _ _ _ c.loop-k.invariant (omega arith)
