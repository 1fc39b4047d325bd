use Rattle.glance.proofs.Laws.{covered_by_threes}
use Rattle.glance.proofs.fifteen.Goals as goal

pub returns : goal.returns
returns g c =
    λ h limit.
    let a = c.args in
    let p = c.requires in
    covered_by_threes _ a.s.now limit a.at a.count _ _ _ _ _ p.1 p.2 (c.low.ensures h)
    (λ l. c.three-v.ensures l limit) (λ l. rw c.spread.ensures at (c.three-w.ensures l limit))
    (λ l. rw c.spread.ensures at (c.three-x.ensures l limit)) (λ l. rw c.spread.ensures at (c.three-y.ensures l limit))
    (λ l. rw c.spread.ensures at (c.three-z.ensures l limit))
