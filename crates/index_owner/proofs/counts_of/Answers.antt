use Prim.Native.Nat.{◌+◌}
use native.Mathlib.Omega.{arith}
use Rattle.index_owner.proofs.Laws.{before-most}
use Rattle.index_owner.proofs.counts_of.Goals as goal

pub count_of-total-requires : goal.count_of-total-requires
count_of-total-requires c = (c.requires.0, c.requires.1, let m = c.requires.4 in omega arith)

pub overflow_add-total : goal.overflow_add-total
overflow_add-total c =
    let h = before-most c.args.s.now c.requires.0 c.requires.1 (c.loop-f.f + 1) in
    let e = c.count_of-total.ensures in
    let i = c.loop-f.invariant in
    let n = c.requires.2 in
    omega arith
