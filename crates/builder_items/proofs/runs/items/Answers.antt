use native.Mathlib.Omega.{arith}
use Rattle.builder_items.proofs.Puts.{put-start, put_here, put_on, put-end}
use Rattle.builder_items.proofs.runs.items.Goals as goal

pub loop-i-init : goal.loop-i-init
loop-i-init g c = put-start c.requires.0 c.requires.1

pub put-requires : goal.put-requires
put-requires g c =
    rw (c.listing_size-from.ensures, c.section_size-step.ensures)
    (put_here c.loop-i.invariant c.loop-i-test.true)

pub loop-i-preserved : goal.loop-i-preserved
loop-i-preserved g c =
    let e = c.put.ensures in
    put_on c.loop-i.invariant _ (g.met.T.Item.even c.args.item.now) c.loop-i-test.true
    (rw (c.listing_size-from.ensures, c.section_size-step.ensures) at e)

pub returns : goal.returns
returns g c = put-end c.loop-i.invariant (omega arith)
