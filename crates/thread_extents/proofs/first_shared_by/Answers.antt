use native.Mathlib.Omega.{arith}
use Rattle.thread_extents.proofs.Earlier.{none_shared}
use Rattle.thread_extents.proofs.first_shared_by.Goals as goal

pub returns-then-all_apart : goal.returns-then-all_apart
returns-then-all_apart g c = (omega arith, λ e t p. none_shared e t c.args.count (c.all_apart.ensures c.if-all_apart.true _ _ p))
