use Prim.Native.Nat.{◌<◌}
use mathlib.Core.Path.{◌∙◌}
use native.Mathlib.Omega.{arith}
use Rattle.moves.specs.Arrays as arrays
use Rattle.relocate_pairs.proofs.Held.{hold_null, room-null, placed-null, run_length, run-null, run-slots}
use Rattle.relocate_pairs.proofs.fill.put.Goals as goal

pub bounds-live-n : goal.bounds-live-n
bounds-live-n c = omega (arith, c.requires.0.live_room, c.requires.1, run_length c.args.run.count c.args.run.base c.args.run.derived)

pub overflow_add-result : goal.overflow_add-result
overflow_add-result c = omega (arith, c.requires.1)

pub returns-then-run-eq0 : goal.returns-then-run-eq0
returns-then-run-eq0 c =
    let a = c.args in
    let h = run_length a.run.count a.run.base a.run.derived in
    let n = a.n in (
      room-null a.live.now a.bases.now a.derived.now n c.requires.0 (omega (arith, c.requires.1)),
      hold_null a.live.now a.bases.now a.derived.now n c.requires.0 (omega (arith, c.requires.1)) ∙ run-null a.run.count a.run.base a.run.derived (arrays.pointers_of n a.live.now a.bases.now a.derived.now) c.if-run-eq0.true,
      placed-null a.live.now a.bases.now a.derived.now n c.requires.0 (omega (arith, c.requires.1)) a.size,
    )

pub put_run-requires : goal.put_run-requires
put_run-requires c =
    let a = c.args in
    let h = run_length a.run.count a.run.base a.run.derived in
    let some : 0 < a.run.count = omega arith in
    (c.requires.0, omega (arith, c.requires.1), c.requires.2, c.requires.3 some, c.requires.4 some)

pub returns : goal.returns
returns c =
    let a = c.args in
    (c.put_run.ensures.1, c.put_run.ensures.2 ∙ run-slots a.run.count a.run.base a.run.derived (arrays.pointers_of a.n a.live.now a.bases.now a.derived.now) c.if-run-eq0.false, c.put_run.ensures.3)
