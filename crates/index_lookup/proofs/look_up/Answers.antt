use mathlib.Core.Path.{sym}
use native.Mathlib.Omega.{arith}
use Rattle.index_lookup.specs.Looked.{five}
use Rattle.index_lookup.proofs.Laws.{long, rising, number-there, between, none, some, low-inside}
use Rattle.index_lookup.proofs.look_up.Goals as goal

-- The two bounds are how many share the address, and the lower one is the place of the first.
pub lower-low-requires : goal.lower-low-requires
lower-low-requires c = (let l = long c.args.s.now c.args.index.now c.args.n c.requires.0 in omega arith, rising c.args.s.now c.args.index.now c.args.n c.requires.0)

pub past-high-requires : goal.past-high-requires
past-high-requires c = (c.requires.0, c.lower-low.ensures)

pub returns-then-low-high : goal.returns-then-low-high
unfolding five
returns-then-low-high c = sym (none c.args.s.now c.args.index.now c.args.n c.requires.0 c.args.address c.lower-low.result c.past-high.result c.lower-low.ensures c.past-high.ensures c.if-low-high.true)

pub overflow_mul-number : goal.overflow_mul-number
overflow_mul-number c =
    let l = long c.args.s.now c.args.index.now c.args.n c.requires.0 in
    let i = low-inside c.args.s.now c.args.index.now c.args.n c.requires.0 c.args.address c.lower-low.result c.past-high.result c.lower-low.ensures c.past-high.ensures c.if-low-high.false in
    omega arith

pub bounds-index-low : goal.bounds-index-low
bounds-index-low c =
    let l = long c.args.s.now c.args.index.now c.args.n c.requires.0 in
    let i = low-inside c.args.s.now c.args.index.now c.args.n c.requires.0 c.args.address c.lower-low.result c.past-high.result c.lower-low.ensures
    c.past-high.ensures c.if-low-high.false in
    omega arith

pub owner_of-function-requires : goal.owner_of-function-requires
owner_of-function-requires c =
    let i = low-inside c.args.s.now c.args.index.now c.args.n c.requires.0 c.args.address c.lower-low.result c.past-high.result c.lower-low.ensures
    c.past-high.ensures c.if-low-high.false in
    (c.requires.0.walkable, c.requires.0.new, c.requires.1, number-there c.args.s.now c.args.index.now c.args.n c.requires.0 c.lower-low.result i)

pub overflow_sub-result : goal.overflow_sub-result
overflow_sub-result c =
    let b = between c.args.s.now c.args.index.now c.args.n c.requires.0 c.args.address c.lower-low.result c.past-high.result
    c.lower-low.ensures c.past-high.ensures in
    omega arith

pub returns : goal.returns
unfolding five
returns c =
    sym (some c.args.s.now c.args.index.now c.args.n c.requires.0 c.args.address c.lower-low.result c.past-high.result
    c.lower-low.ensures c.past-high.ensures c.if-low-high.false c.owner_of-function.result c.owner_of-function.ensures)
