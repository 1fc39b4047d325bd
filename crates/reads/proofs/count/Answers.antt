use Rattle.std.proofs.Common.{arith}
use Rattle.reads.proofs.Eight.{counting_on, counting_end}
use Rattle.reads.proofs.count.Goals as goal

pub loop-at-preserved : goal.loop-at-preserved
loop-at-preserved g c =
    counting_on c.args.s.now c.args.number c.args.places.now c.loop-at.found c.loop-at.at-index c.loop-at.invariant
    (omega arith) c.hit-found.result c.hit-found.ensures.0 c.hit-found.ensures.1

pub returns : goal.returns
returns g c = counting_end c.args.s.now c.args.number c.args.places.now c.loop-at.found c.loop-at.at-index c.loop-at.invariant (omega arith)
