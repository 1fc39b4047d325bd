use mathlib.Core.Path.{◌≡◌, refl}
use native.Mathlib.Omega.{arith}
use Rattle.relocate_pairs.proofs.Held.{run-start, run_on, ahead-most}
use Rattle.relocate_pairs.proofs.fill.put_run.Goals as goal

pub returns : goal.returns
returns c =
    let l = c.loop-next in
    let e : l.next ≡ c.args.k = omega arith in
    let r = rw e at l.invariant in
    (refl, r.room, r.holds, r.placed)

pub loop-next-init : goal.loop-next-init
loop-next-init c = run-start _ _ _ _ _ _ _ _ c.requires.0

pub loop-next-preserved : goal.loop-next-preserved
loop-next-preserved c = run_on c.loop-next.invariant (omega arith) (omega (arith, c.requires.1)) (omega (arith, c.requires.2)) c.requires.3 c.requires.4

pub overflow_add-i : goal.overflow_add-i
overflow_add-i c = omega (arith, c.requires.1)

pub bounds-live-i : goal.bounds-live-i
bounds-live-i c = omega (arith, c.requires.1, c.loop-next.invariant.room.live_room)

pub overflow_mul-bases : goal.overflow_mul-bases
overflow_mul-bases c = omega (arith, c.requires.1)

pub overflow_add-bases : goal.overflow_add-bases
overflow_add-bases c = omega (arith, ahead-most c.args.size c.args.k c.args.b (omega (arith, c.requires.2)) c.requires.3 c.loop-next.next (omega arith))

pub offset_bounds-bases-i : goal.offset_bounds-bases-i
offset_bounds-bases-i c = omega (arith, c.requires.1)

pub bounds-bases-i : goal.bounds-bases-i
bounds-bases-i c = omega (arith, c.requires.1, c.loop-next.invariant.room.bases_room)

pub overflow_mul-derived : goal.overflow_mul-derived
overflow_mul-derived c = omega (arith, c.requires.1)

pub overflow_add-derived : goal.overflow_add-derived
overflow_add-derived c = omega (arith, ahead-most c.args.size c.args.k c.args.d (omega (arith, c.requires.2)) c.requires.4 c.loop-next.next (omega arith))

pub offset_bounds-derived-i : goal.offset_bounds-derived-i
offset_bounds-derived-i c = omega (arith, c.requires.1)

pub bounds-derived-i : goal.bounds-derived-i
bounds-derived-i c = omega (arith, c.requires.1, c.loop-next.invariant.room.derived_room)
