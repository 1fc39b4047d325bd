use Rattle.std.proofs.Common.{arith}
use Rattle.wire.proofs.Laws.{word-add}
use Rattle.reads.proofs.by_halves.Goals as goal

pub returns : goal.returns
returns c = omega (arith, word-add 4 4 c.args.s.now c.args.at)
