use native.Mathlib.Omega.{arith}
use Rattle.stackmap.proofs.layout.locations_padding.Goals as goal

pub returns : goal.returns
returns c = (rw c.if-old.false, omega arith)
