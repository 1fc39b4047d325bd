use native.Mathlib.Omega.{arith}
use Rattle.index_lookup.proofs.Laws.{long, rising, none_here, one-here}
use Rattle.index_lookup.proofs.past.Goals as goal

pub bounds-index-low : goal.bounds-index-low
bounds-index-low c =
    let l = long c.args.s.now c.args.index.now c.args.n c.requires.0 in
    omega arith

pub returns-then-index-low : goal.returns-then-index-low
returns-then-index-low c = none_here c.args.s.now c.args.index.now c.args.n c.requires.0 c.args.address c.args.low c.requires.1 (omega arith) c.if-index-low.true

pub bounds-index-low-then-low-n : goal.bounds-index-low-then-low-n
bounds-index-low-then-low-n c =
    let l = long c.args.s.now c.args.index.now c.args.n c.requires.0 in
    omega arith

pub returns-then-index-low-2 : goal.returns-then-index-low-2
returns-then-index-low-2 c = one-here c.args.s.now c.args.index.now c.args.n c.requires.0 c.args.address c.args.low c.requires.1 (omega arith) c.if-index-low.false c.if-index-low-2.true

pub lower-requires : goal.lower-requires
lower-requires c =
    let l = long c.args.s.now c.args.index.now c.args.n c.requires.0 in
    (omega arith, rising c.args.s.now c.args.index.now c.args.n c.requires.0)
