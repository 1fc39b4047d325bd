use native.Mathlib.Omega.{arith}
use Rattle.thread_marks.proofs.Marks.{grown-none, grown_on}
use Rattle.linked_search.proofs.Table.{settling_start, settling_on, settling_end, settles_grown}
use Rattle.linked_search.proofs.settle.Goals as goal

pub loop-i-init : goal.loop-i-init
loop-i-init c = ((λ keys done f. settling_start f), grown-none _ _)

pub settle_one-requires : goal.settle_one-requires
settle_one-requires c = let p = c.requires in (omega (arith, p.0), p.1, p.2)

pub loop-i-preserved : goal.loop-i-preserved
loop-i-preserved c =
    let l = c.loop-i.invariant in
    let o = c.settle_one.ensures in
    ((λ keys done f. settling_on o (l.0 keys done f)), grown_on 0 0 0 (omega arith) l.1 (settles_grown o))

pub returns : goal.returns
returns c =
    let l = c.loop-i.invariant in
    ((λ keys done f. settling_end (omega arith) (l.0 keys done f)), l.1)
