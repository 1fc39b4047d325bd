use mathlib.Core.Path.{sym}
use mathlib.Core.Bool.{true≢false}
use native.Mathlib.Omega.{arith}
use Rattle.stackmap_quick.proofs.Looks.{same_size, begin}
use Rattle.stackmap_quick.proofs.quick.begun.Goals as goal

pub returns-then-seen : goal.returns-then-seen
returns-then-seen c = λ h. c.requires.2 c.if-seen.true

pub head_right-requires : goal.head_right-requires
head_right-requires c = let p = c.requires.0 in omega arith

pub any-requires : goal.any-requires
any-requires c = let p = c.requires.0 in rw (same_size c.args.old) p

pub returns-then-head_right : goal.returns-then-head_right
returns-then-head_right c =
    λ h.
    let a = c.args in
    let p = c.requires in
    let g = c.head_right.ensures c.if-head_right.true in
    let k = c.index_limit-limit in
    begin a.old a.s.now a.constants k.result a.address a.at a.count k.ensures.0 k.ensures.1 p.1 g.0 g.1 (c.any.ensures h)

pub returns : goal.returns
returns c = λ h. absurd (true≢false (sym h))
