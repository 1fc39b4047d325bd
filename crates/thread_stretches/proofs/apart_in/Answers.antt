use native.Mathlib.Omega.{arith}
use Rattle.thread_stretches.proofs.Laws.{all_apart}
use Rattle.thread_stretches.proofs.apart_in.Goals as goal

pub neighbours-requires : goal.neighbours-requires
neighbours-requires c = let e = c.sort.ensures.0.same_length in omega arith

pub shape_of-pairs : goal.shape_of-pairs
shape_of-pairs c = c.sort.ensures.0.same_length

pub returns : goal.returns
returns c =
    let s = c.sort.ensures in
    λ h from to k small o. all_apart from to k _ _ _ _ small o s.0 s.1 (c.neighbours.ensures h)
