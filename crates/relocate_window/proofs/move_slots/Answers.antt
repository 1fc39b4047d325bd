use Prim.Native.Nat.{◌+◌, ◌-◌}
use mathlib.Core.Path.{◌≡◌, refl}
use native.Mathlib.Omega.{arith}
use lib.ListN.{length}
use Rattle.relocate.specs.Restore.{restore}
use Rattle.relocate.specs.Code.{limited, record_of}
use Rattle.relocate_plan.proofs.Following.{follows_pairs, refuses, extent_tells, slots_19, slots_on}
use Rattle.relocate_window.proofs.move_slots.Goals as goal

pub returns-then-out-count : goal.returns-then-out-count
returns-then-out-count c =
    let a = c.args in
    refuses _ _ _ _ _ _ 19 _ refl
    (slots_19 (restore a.s.now a.olds.now a.news.now a.first (limited a.most)) a.frame a.size (record_of a.s.now a.at) a.count c.requires.0.counted a.old c.requires.1 _
    c.fill-out.ensures.0 c.if-out-count.true)

pub returns : goal.returns
returns c =
    let a = c.args in
    let r = record_of a.s.now a.at in
    rw (slots_on (restore a.s.now a.olds.now a.news.now a.first (limited a.most)) a.frame a.size r a.count c.requires.0.counted a.old c.requires.1 _ c.fill-out.ensures.0 c.if-out-count.false (a.frame.sp - a.first) refl)
    (follows_pairs _ a.write _ _ a.image.now _ _ _ _ _ _ _ (rw c.requires.3 (c.fill-out.ensures.2 c.if-out-count.false)) (c.at_pair.ensures a.frame) c.move_window-m.ensures)

pub fill-out-requires : goal.fill-out-requires
fill-out-requires c = (record { live_room = refl; bases_room = refl; derived_room = refl }, c.requires.0, c.requires.7, c.requires.2, omega (arith, c.requires.3, c.requires.4))

pub overflow_sub-off : goal.overflow_sub-off
overflow_sub-off c = omega (arith, extent_tells c.args.first (length c.args.image.now) c.args.frame.sp c.args.size c.requires.6)

pub overflow_add-off : goal.overflow_add-off
overflow_add-off c = omega (arith, extent_tells c.args.first (length c.args.image.now) c.args.frame.sp c.args.size c.requires.6)

pub move_window-m-requires : goal.move_window-m-requires
move_window-m-requires c =
    let a = c.args in
    let e = extent_tells a.first (length a.image.now) a.frame.sp a.size c.requires.6 in
    let off = a.frame.sp - a.first in
    let z : off + a.size - off ≡ a.size = omega arith in (
      omega arith,
      omega arith,
      c.requires.4,
      c.requires.4,
      omega (arith, c.requires.7),
      omega (arith, c.requires.5),
      rw (z, c.requires.5, c.requires.3) (c.fill-out.ensures.3 c.if-out-count.false),
      c.requires.8,
    )

pub at_pair-requires : goal.at_pair-requires
at_pair-requires c = c.requires.0
