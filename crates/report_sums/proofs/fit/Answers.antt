use native.Mathlib.Omega.{arith}
use Rattle.report_sums.proofs.Fits.{room-left}
use Rattle.report_sums.proofs.fit.Goals as goal

pub returns : goal.returns
returns c = let a = c.args in room-left a.a a.b (omega arith)
