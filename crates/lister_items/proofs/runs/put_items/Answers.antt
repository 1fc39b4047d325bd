use native.Mathlib.Omega.{arith}
use Rattle.lister_items.proofs.Loops.{run-start, run_here, run_on, run_end}
use Rattle.lister_items.proofs.runs.put_items.Goals as goal

pub loop-i-init : goal.loop-i-init
loop-i-init g c = run-start c.requires.0 c.requires.1

pub put-next-requires : goal.put-next-requires
put-next-requires g c = rw c.section_size-step.ensures (run_here c.loop-i.invariant c.loop-i-test.true)

pub loop-i-preserved : goal.loop-i-preserved
loop-i-preserved g c =
    let q = c.put-next.ensures in
    run_on c.loop-i.invariant (g.met.T.Item.even c.args.item.now) c.loop-i-test.true (rw c.section_size-step.ensures at q)

pub returns : goal.returns
returns g c = run_end c.loop-i.invariant (omega arith)
