use mathlib.Core.Path.{◌≡◌, refl}
use native.Mathlib.Omega.{arith}
use Rattle.moves.proofs.Fills.{renewing_start, renewing_stop, renewing_step, renewing_end}
use Rattle.moves_slots.proofs.renewal.renew.Goals as goal

pub loop-k-init : goal.loop-k-init
loop-k-init c = renewing_start _ _ _ _ _ _

pub renew_one-requires : goal.renew_one-requires
renew_one-requires c =
    let l = c.loop-k in
    (omega arith, omega (arith, l.auto.values, c.requires.1), c.requires.2 l.k c.loop-k-test.true, c.requires.3)

pub returns-then-renew_one : goal.returns-then-renew_one
returns-then-renew_one c =
    let l = c.loop-k in
    let e = renewing_stop _ _ _ _ _ _ _ _ _ _ (omega arith) l.invariant c.renew_one.ensures c.if-renew_one.true in
    record { answer = e; left = λ h. absurd (omega arith) }

pub loop-k-preserved : goal.loop-k-preserved
loop-k-preserved c =
    let l = c.loop-k in
    renewing_step _ _ _ _ _ _ _ _ _ _ (omega arith) (omega (arith, l.auto.values, c.requires.1)) l.invariant c.renew_one.ensures c.if-renew_one.false

pub returns : goal.returns
returns c =
    let l = c.loop-k in
    let e : l.k ≡ c.args.pairs = omega arith in
    renewing_end _ _ _ _ _ _ _ _ refl (rw e at l.invariant)
