use Prim.Native.Nat.{◌+◌, ◌-◌}
use mathlib.Core.Path.{◌≡◌, ◌∙◌}
use native.Mathlib.Omega.{arith}
use lib.ListN.{length}
use Rattle.moves.proofs.Splice.{part_length}
use Rattle.relocate.specs.Restore.{restore}
use Rattle.relocate.specs.Stopped.{stopped}
use Rattle.relocate_plan.proofs.Following.{extent_tells}
use Rattle.explain_outline.proofs.Meets.{frame-put, image-ends}
use Rattle.explain_outline.proofs.put_frame.Goals as goal

pub overflow_sub-off : goal.overflow_sub-off
overflow_sub-off c =
    let a = c.args in
    let x = extent_tells a.first (length a.image.now) a.frame.sp a.outline.size c.requires.0.extent in
    omega arith

pub overflow_add-end : goal.overflow_add-end
overflow_add-end c =
    let a = c.args in
    let x = extent_tells a.first (length a.image.now) a.frame.sp a.outline.size c.requires.0.extent in
    omega arith

pub slice_bounds-put_rows-end : goal.slice_bounds-put_rows-end
slice_bounds-put_rows-end c =
    let a = c.args in
    let x = extent_tells a.first (length a.image.now) a.frame.sp a.outline.size c.requires.0.extent in
    omega arith

pub put_rows-requires : goal.put_rows-requires
put_rows-requires c =
    let a = c.args in
    let x = extent_tells a.first (length a.image.now) a.frame.sp a.outline.size c.requires.0.extent in
    let i = image-ends a.first (length a.image.now) c.requires.2 in
    let off = a.frame.sp - a.first in
    let n = off + a.outline.size - off in
    let z : n ≡ a.outline.size = omega arith in
    let e = part_length a.image.now off n (omega arith) ∙ z in
    (c.requires.0.formed.paired, c.requires.0.formed.few, rw (e, c.requires.1) c.requires.4, c.requires.3, rw e (omega arith), c.requires.5)

pub returns : goal.returns
returns c g settings h =
    let a = c.args in
    let off = a.frame.sp - a.first in
    frame-put (restore a.s.now a.olds.now a.news.now a.first settings) a.image.now (stopped g a.registers.now) a.frame a.outline _ _ _ h a.position
    a.rows.now _ a.to (off + a.outline.size - off) (omega arith) c.put_rows.ensures
