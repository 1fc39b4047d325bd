use mathlib.Core.Path.{sym, ◌∙◌}
use mathlib.Core.Bool.{true≢false}
use Rattle.parser_walk.proofs.Turns.{ahead-start, ahead-old}
use native.Mathlib.Omega.{arith}
use Rattle.parser_walk.proofs.start.Goals as goal

pub returns-then-plan : goal.returns-then-plan
returns-then-plan c =
    let e = c.if-plan.true in
    record {
      turning = record { most = λ z. absurd (true≢false (sym e ∙ z)); begun = λ _. omega arith };
      all_ahead = λ l. rw e (ahead-old l _ _);
    }

pub returns : goal.returns
returns c =
    let e = c.if-plan.false in
    record {
      turning = record { most = λ _. omega arith; begun = λ z. absurd (omega arith) };
      all_ahead = λ l. rw e (ahead-start l _ _);
    }
