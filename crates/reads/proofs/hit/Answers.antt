use Rattle.std.proofs.Common.{arith}
use Rattle.reads.proofs.Eight.{hit_past, hit_here, one_at_most}
use Rattle.reads.proofs.hit.Goals as goal

pub returns-then-at-s : goal.returns-then-at-s
returns-then-at-s g c = (hit_past c.args.s.now c.args.number c.args.at (omega arith), omega arith)

pub returns : goal.returns
returns g c = let a = c.args in rw c.from.ensures (rw c.read.ensures (hit_here a.s.now a.number a.at (omega arith)), one_at_most _)
