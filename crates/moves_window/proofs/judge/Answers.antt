use native.Mathlib.Omega.{arith}
use lib.ListN.{length}
use Rattle.moves.specs.Table.{look_up}
use Rattle.moves.specs.Slots.{state}
use Rattle.moves_window.proofs.Meets.{fine, stop20, stop21, placed_below}
use Rattle.moves_window.proofs.judge.Goals as goal

pub collision-colliding-requires : goal.collision-colliding-requires
collision-colliding-requires c = (c.requires.0, omega (arith, c.requires.1, c.read_all.auto.contents), placed_below _ _ _ _ _ _ c.requires.2 c.requires.3 c.requires.4)

pub returns-then-colliding-pairs : goal.returns-then-colliding-pairs
returns-then-colliding-pairs c =
    let r = c.read_all in
    let a = c.args in
    stop20 a.live.now a.bases.now a.derived.now a.pairs (look_up a.olds.now a.news.now) (length a.window.now) (length a.registers.now)
    c.requires.2 c.requires.4 (state a.window.now a.registers.now) _ r.ensures c.collision-colliding.result _ c.collision-colliding.ensures c.if-colliding-pairs.true

pub returns-then-unknown-pairs : goal.returns-then-unknown-pairs
returns-then-unknown-pairs c =
    let u = c.renew-unknown in
    let k = c.collision-colliding in
    let r = c.read_all in
    let a = c.args in
    stop21 a.live.now a.bases.now a.derived.now a.pairs (look_up a.olds.now a.news.now) (length a.window.now) (length a.registers.now)
    c.requires.2 c.requires.4 (state a.window.now a.registers.now) _ r.ensures k.result u.result _ k.ensures c.if-colliding-pairs.false u.ensures c.if-unknown-pairs.true

pub returns : goal.returns
returns c =
    let u = c.renew-unknown in
    let k = c.collision-colliding in
    let r = c.read_all in
    let a = c.args in
    fine a.live.now a.bases.now a.derived.now a.pairs (look_up a.olds.now a.news.now) (length a.window.now) (length a.registers.now)
    c.requires.2 c.requires.4 (state a.window.now a.registers.now) _ r.ensures k.result u.result _ k.ensures c.if-colliding-pairs.false u.ensures c.if-unknown-pairs.false
