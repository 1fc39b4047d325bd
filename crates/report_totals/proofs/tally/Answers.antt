use mathlib.Core.Path.{sym, ap, ◌∙◌}
use native.Mathlib.Omega.{arith}
use borrow.Author.Tests.{not-true, not-false}
use Rattle.stackmap.specs.Verdict.{verdict}
use Rattle.stackmap.proofs.Within.{begin_held}
use Rattle.report_totals.proofs.Whole.{tally_refused, tally_wrong, tally_right, tally_over}
use Rattle.report_totals.proofs.tally.Goals as goal

pub records-walked-requires : goal.records-walked-requires
records-walked-requires c =
    let t = begin_held _ _ (sym c.begin.ensures ∙ ap verdict c.in-Ok.is) in
    (t.walkable, t.begins, rw t.begins t.inside)

pub stack_sizes-requires : goal.stack_sizes-requires
stack_sizes-requires c = (begin_held _ _ (sym c.begin.ensures ∙ ap verdict c.in-Ok.is)).walkable.inside

pub u32_at-functions-requires : goal.u32_at-functions-requires
u32_at-functions-requires c =
    let t = begin_held _ _ (sym c.begin.ensures ∙ ap verdict c.in-Ok.is) in
    let i = t.inside in
    omega arith

pub returns-in-Err : goal.returns-in-Err
returns-in-Err c = tally_refused _ c.refused_totals.ensures (sym c.begin.ensures ∙ ap verdict c.in-Err.is)

pub returns-then-not-walked : goal.returns-then-not-walked
returns-then-not-walked c = tally_wrong _ (sym c.begin.ensures ∙ ap verdict c.in-Ok.is) (sym (not-true _ c.if-not-walked.true) ∙ c.records-walked.ensures.0) c.refused_totals-then-not-walked.ensures

pub returns-in_err-stacks-in-Ok : goal.returns-in_err-stacks-in-Ok
returns-in_err-stacks-in-Ok c =
    let w = c.records-walked.ensures in
    let y = not-false _ c.if-not-walked.false in
    let f = c.stack_sizes.ensures in
    rw c.from_residual.ensures (tally_over _ (sym c.begin.ensures ∙ ap verdict c.in-Ok.is) (sym y ∙ w.0) (rw c.in_err-stacks-in-Ok.was at f))

pub returns-in_ok-stacks-in-Ok : goal.returns-in_ok-stacks-in-Ok
returns-in_ok-stacks-in-Ok c =
    let w = c.records-walked.ensures in
    let y = not-false _ c.if-not-walked.false in
    let f = c.stack_sizes.ensures in
    tally_right _ (sym c.begin.ensures ∙ ap verdict c.in-Ok.is) (sym y ∙ w.0) _ (w.1 y) _ (rw c.in_ok-stacks-in-Ok.was at f) c.u32_at-functions.ensures c.accepted_totals.ensures
