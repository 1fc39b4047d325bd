use Rattle.std.proofs.Common.{arith}
use Rattle.reads.proofs.Eight.{eight}
use Rattle.reads.proofs.by_bytes.Goals as goal

pub returns : goal.returns
returns c = omega (arith, eight c.args.s.now c.args.at)
