use Prim.Native.Nat.{ℕ, suc, ◌<◌}
use mathlib.Core.Path.{◌≡◌, sym, ◌∙◌}
use mathlib.Core.Bool.{false}
use native.Mathlib.Omega.{arith}
use Rattle.moves.specs.Arrays.{clash_at}
use Rattle.moves.proofs.Searches.{low_end, low-hit, low_step, any_yes, no_any, below_false}
use Rattle.moves_window.proofs.Clashes.{bad_at, collision_start}
use Rattle.moves_window.proofs.collisions.collision.Goals as goal

pub loop-p-init : goal.loop-p-init
loop-p-init c = collision_start _ _ _ _ _

pub loop-q-init : goal.loop-q-init
loop-q-init c = λ k h. absurd (omega arith)

pub clash_at-requires : goal.clash_at-requires
clash_at-requires c = (c.requires.0, c.requires.1, omega arith, omega arith, c.requires.2)

pub loop-q-preserved : goal.loop-q-preserved
loop-q-preserved c = below_false _ _ c.loop-q.invariant (sym c.clash_at.ensures ∙ c.if-clash_at.false)

pub loop-p-preserved : goal.loop-p-preserved
loop-p-preserved c =
    let a = c.args in
    let p = c.loop-p in
    let f = clash_at a.live.now a.bases.now a.derived.now a.contents.now p.p in
    let none : (k : ℕ) → k < suc p.p → f k ≡ false =
    λ k h. grind (arith, c.loop-q.invariant k) in
    sym (low_step (bad_at a.live.now a.bases.now a.derived.now a.contents.now) a.pairs p.p (omega arith) (no_any f (suc p.p) none)) ∙ p.invariant

pub returns : goal.returns
returns c =
    let a = c.args in
    let p = c.loop-p in
    let e : p.p ≡ a.pairs = omega arith in
    rw e at (sym (low_end (bad_at a.live.now a.bases.now a.derived.now a.contents.now) a.pairs p.p (omega arith)) ∙ p.invariant)

pub returns-then-clash_at : goal.returns-then-clash_at
returns-then-clash_at c =
    let a = c.args in
    let p = c.loop-p in
    let e = any_yes (clash_at a.live.now a.bases.now a.derived.now a.contents.now p.p) (suc p.p) c.loop-q.q (omega arith) (sym c.clash_at.ensures ∙ c.if-clash_at.true) in
    sym (low-hit (bad_at a.live.now a.bases.now a.derived.now a.contents.now) a.pairs p.p (omega arith) e) ∙ p.invariant
