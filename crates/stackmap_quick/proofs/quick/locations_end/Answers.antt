use native.Mathlib.Omega.{arith}
use Rattle.stackmap_quick.proofs.quick.locations_end.Goals as goal

pub returns-then-old : goal.returns-then-old
returns-then-old c = (rw c.if-old.true, omega arith)

pub returns : goal.returns
returns c = (rw c.if-old.false, omega arith)
