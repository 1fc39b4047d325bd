use Prim.Native.Nat.{◌-◌}
use native.Mathlib.Omega.{arith}
use Rattle.sorted.proofs.Laws.{fewer_sorted}
use Rattle.linked_search.proofs.Table.{settles_this, settles_zero, settles_low}
use Rattle.linked_search.proofs.settle_one.Goals as goal

pub returns-then-j-gt0 : goal.returns-then-j-gt0
returns-then-j-gt0 c =
    let a = c.args in
    let h = c.hits_at-h in
    let b = c.lower_bound-j in
    settles_this a.table.now a.n a.i a.hits.now a.sites.now _ _ h.result b.result h.ensures c.if-h-ge-MARK.true b.ensures.1 c.put_site.ensures c.put_first.ensures.room
    c.put_first.ensures.is

pub returns-else-j-gt0 : goal.returns-else-j-gt0
returns-else-j-gt0 c =
    let a = c.args in
    let h = c.hits_at-h in
    let b = c.lower_bound-j in
    settles_zero a.table.now a.n a.i a.hits.now a.sites.now h.result b.result h.ensures (omega arith) b.ensures.1

pub returns-else-h-ge-MARK : goal.returns-else-h-ge-MARK
returns-else-h-ge-MARK c =
    let a = c.args in
    let h = c.hits_at-h in
    settles_low a.table.now a.n a.i a.hits.now a.sites.now h.result h.ensures (omega arith)

pub lower_bound-j-requires : goal.lower_bound-j-requires
lower_bound-j-requires c = let p = c.requires in (omega (arith, p.1), fewer_sorted _ (omega arith) p.2)

pub overflow_sub-table : goal.overflow_sub-table
overflow_sub-table c =
    let j = c.lower_bound-j.result in
    omega (arith, c.requires.2.order (j - 1) j (omega arith) (omega (arith, c.lower_bound-j.ensures.1.most)))

pub overflow_sub-place-then-j-gt0 : goal.overflow_sub-place-then-j-gt0
overflow_sub-place-then-j-gt0 c =
    let b = c.lower_bound-j in
    omega (arith, b.ensures.1.below (b.result - 1) (omega arith))
