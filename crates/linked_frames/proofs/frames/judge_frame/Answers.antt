use Prim.Native.Nat.{◌+◌, ◌*◌, ◌-◌}
use mathlib.Core.Path.{◌∙◌}
use native.Mathlib.Omega.{arith}
use Rattle.relocate.specs.Restore.{restore}
use Rattle.thread.specs.Thread.{thread_of, stopped_at}
use Rattle.linked_moves.specs.Code.{maps_in}
use Rattle.linked_frames.proofs.ByMap.{at_site, refused-answer}
use Rattle.linked_frames.proofs.Positions.{site_at, there_right, judged-there}
use borrow.Author.Rules.{rules}
use Rattle.linked_frames.proofs.frames.judge_frame.Goals as goal

pub returns-then-site-ne0 : goal.returns-then-site-ne0
returns-then-site-ne0 c =
    let a = c.args in
    let R = restore a.s.now a.olds.now a.news.now a.first a.settings in
    let th = thread_of a.machine a.frames.now a.registers.now in
    c.refused.ensures ∙ refused-answer R (maps_in a.s.now) a.image.now (stopped_at th a.k) (site_at th a.k c.site_of-site.ensures) c.if-site-ne0.true

pub returns : goal.returns
returns c =
    let a = c.args in
    let R = restore a.s.now a.olds.now a.news.now a.first a.settings in
    let th = thread_of a.machine a.frames.now a.registers.now in
    let o = at_site {f = stopped_at th a.k} (site_at th a.k c.site_of-site.ensures) c.if-site-ne0.false in
    judged-there th a.k R (maps_in a.s.now) a.image.now o (32 * a.k + 32 - 32 * a.k) _ c.frame_at-frame.ensures (omega arith) (rw c.bytes.ensures at c.judge.ensures)

pub bytes-requires : goal.bytes-requires
bytes-requires c =
    let a = c.args in
    let R = restore a.s.now a.olds.now a.news.now a.first a.settings in
    let th = thread_of a.machine a.frames.now a.registers.now in
    let o = at_site {f = stopped_at th a.k} (site_at th a.k c.site_of-site.ensures) c.if-site-ne0.false in
    (o.here.ordered, o.here.inside)

pub judge-requires : goal.judge-requires
judge-requires c =
    let a = c.args in
    let R = restore a.s.now a.olds.now a.news.now a.first a.settings in
    let th = thread_of a.machine a.frames.now a.registers.now in
    let o = at_site {f = stopped_at th a.k} (site_at th a.k c.site_of-site.ensures) c.if-site-ne0.false in
    let w = there_right th a.k R (maps_in a.s.now) a.image.now o _ c.frame_at-frame.ensures c.requires.0.allowed_right in
    rw c.bytes.ensures (w.0, w.1, w.2, c.requires.0.image_right, c.requires.0.table_right, c.requires.0.most_right, search rules)
