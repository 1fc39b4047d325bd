use mathlib.Core.Path.{◌≡◌, sym, ◌∙◌}
use borrow.Author.Tests.{eq-eqb, ne_eqb}
use native.Mathlib.Omega.{arith}
use Rattle.replay.specs.Replay.{value_of, as_recorded}
use Rattle.replay.specs.Code.{compared1}
use Rattle.replay_compare.proofs.judge.Goals as goal
use Rattle.replay_compare.proofs.judge.Goals.{else-recorded-m-via-then-recorded-m+else-recorded-value, else-recorded-m-via-else-recorded-m}

pub returns-then-recorded-value : goal.returns-then-recorded-value
unfolding compared1 as_recorded
returns-then-recorded-value c =
    let a = c.args in
    let v = c.value_of-value.ensures in
    let e : a.recorded.value ≡ value_of a.m = omega arith in
    rw (eq-eqb _ _ c.if-recorded-m.true, eq-eqb _ _ e)

pub returns-else-recorded-m : goal.returns-else-recorded-m
unfolding compared1 as_recorded
returns-else-recorded-m c =
    let v = c.value_of-value.ensures in
    elim c.else-recorded-m.branch [
      | else-recorded-m-via-then-recorded-m+else-recorded-value w ↦ rw (eq-eqb _ _ w.if-recorded-m.true, ne_eqb _ _ (λ z. w.if-recorded-value.false (z ∙ sym v)), v)
      | else-recorded-m-via-else-recorded-m w ↦ rw (ne_eqb _ _ w.if-recorded-m.false, v)
    ]
