use Rattle.glance.proofs.Laws.{low-each, four}
use Rattle.glance_any.proofs.four_of_any.Goals as goal

pub returns : goal.returns
returns c =
    λ h.
    let a = c.args in
    let u = c.adjusted-a in
    let v = c.adjusted-b in
    let w = c.adjusted-c in
    let x = c.adjusted-d in
    let l = low-each a.old u.result v.result w.result x.result h in
    four a.old a.s.now a.limit a.at (u.ensures l.0) (rw c.place.ensures at (v.ensures l.1))
    (rw c.place-2.ensures at (w.ensures l.2)) (rw c.place-3.ensures at (x.ensures l.3))
