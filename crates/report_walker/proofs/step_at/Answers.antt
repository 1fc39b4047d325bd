use Prim.Native.Nat.{◌+◌, ◌-◌}
use mathlib.Core.Path.{◌≡◌, refl, sym, ap, ◌∙◌}
use native.Mathlib.Omega.{arith}
use Rattle.stackmap.specs.Verdict.{verdict}
use Rattle.report_walker.proofs.Stops.{stops}
use Rattle.report_walker.proofs.step_at.Goals as goal

pub record_at-requires : goal.record_at-requires
record_at-requires c =
    let q = c.requires in
    let o = c.owner-turn.ensures in
    (q.old_is, q.functions, (λ z. let m = o.3 z in let k = o.2 in omega arith), q.inside)

pub returns-in_err-end : goal.returns-in_err-end
returns-in_err-end c =
    let o = c.owner-turn in
    stops _ _ _ _ c.from_residual.ensures.1
    (record {
      next = o.result.next;
      left = o.result.left;
      owner = record { same = o.ensures.0; some_left = o.ensures.1; some_next = o.ensures.2; most = o.ensures.3 };
      refused = sym c.record_at.ensures ∙ ap verdict c.in_err-end.was;
    })

pub returns : goal.returns
returns c =
    let o = c.owner-turn in
    let q = c.requires in
    let l : o.result.left - 1 + 1 ≡ o.result.left = omega (arith, o.ensures.1) in
    record {
      some_ahead = omega arith;
      owner = rw l (record { same = o.ensures.0; some_left = o.ensures.1; some_next = o.ensures.2; most = o.ensures.3 });
      valid = sym c.record_at.ensures ∙ ap verdict c.in_ok-end.was;
      old_is = refl;
      constants = refl;
      remaining = refl;
      number = refl;
    }
