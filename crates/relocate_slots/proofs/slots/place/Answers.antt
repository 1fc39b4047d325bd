use native.Mathlib.Omega.{arith}
use Rattle.relocate_slots.proofs.Places.{place_past, place_here}
use Rattle.relocate_slots.proofs.slots.place.Goals as goal

pub returns-then-p-size : goal.returns-then-p-size
returns-then-p-size c = place_past c.args.p c.args.slots c.args.size (omega arith)

pub returns-then-size-at : goal.returns-then-size-at
returns-then-size-at c = let a = c.args in place_past a.p a.slots a.size (omega arith)

pub returns : goal.returns
returns c = let a = c.args in place_here a.p a.slots a.size (omega arith)
