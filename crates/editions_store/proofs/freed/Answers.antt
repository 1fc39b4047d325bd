use native.Mathlib.Omega.{arith}
use mathlib.Core.Path.{◌≡◌, ◌∙◌}
use lib.ListN.{length}
use Rattle.editions_store.proofs.Places.{start, clear_step, all_cleared}
use Rattle.editions_store.proofs.freed.Goals as goal

pub loop-place-init : goal.loop-place-init
loop-place-init c = start _ _

pub loop-place-preserved : goal.loop-place-preserved
loop-place-preserved c = rw (clear_step c.args.number c.loop-place.place-index c.args.slots, ← c.loop-place.invariant, c.cleared.ensures)

pub returns : goal.returns
returns c =
    let k : c.loop-place.place-index ≡ length c.args.slots = omega arith in
    c.loop-place.invariant ∙ all_cleared c.args.number c.loop-place.place-index c.args.slots k
