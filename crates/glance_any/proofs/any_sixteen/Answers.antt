use Rattle.glance.proofs.Laws.{covered}
use Rattle.glance_any.proofs.any_sixteen.Goals as goal

pub returns : goal.returns
returns g c =
    λ h.
    let a = c.args in
    let p = c.requires in
    covered _ a.s.now a.limit a.at a.count _ _ _ _ p.1 p.2 (c.low.ensures h) (λ l. c.four_of_any-w.ensures l)
    (λ l. rw c.spread.ensures at (c.four_of_any-x.ensures l)) (λ l. rw c.spread.ensures at (c.four_of_any-y.ensures l))
    (λ l. rw c.spread.ensures at (c.four_of_any-z.ensures l))
