use mathlib.Core.Path.{◌≡◌, sym, ap, ◌∙◌}
use native.Mathlib.Omega.{arith}
use lib.ListN.{drop, length-drop}
use Rattle.stackmap.specs.Verdict.{verdict, shift}
use Rattle.stackmap.proofs.Within.{part-from}
use Rattle.questions_find.specs.Scan.{front_check}
use Rattle.thread_search.proofs.Walked.{never_valid}
use Rattle.linked_search.proofs.Cuts.{stop_within, end_within}
use Rattle.linked_search.proofs.scan_at.Goals as goal

pub returns-in-Err : goal.returns-in-Err
unfolding shift
returns-in-Err c =
    let answer : verdict c.scan_all.result ≡ front_check (drop c.args.at c.args.s.now) = rw part-from at c.scan_all.ensures.0 in
    (rw (← answer, c.in-Err.is), record { noted_all = λ e z. never_valid z; grown = c.scan_all.ensures.1.grown })

pub returns-in-Ok : goal.returns-in-Ok
unfolding shift
returns-in-Ok c =
    let answer : verdict c.scan_all.result ≡ front_check (drop c.args.at c.args.s.now) = rw part-from at c.scan_all.ensures.0 in
    let n = c.scan_all.ensures.1 in
    (rw (← answer, c.in-Ok.is), record { noted_all = λ e z. rw part-from at (n.noted_all _ (ap verdict c.in-Ok.is)); grown = n.grown })

pub overflow_add-result : goal.overflow_add-result
overflow_add-result c =
    let answer : verdict c.scan_all.result ≡ front_check (drop c.args.at c.args.s.now) = rw part-from at c.scan_all.ensures.0 in
    let a = c.args in
    let i = stop_within _ _ _ (sym (answer) ∙ ap verdict c.in-Err.is) in
    let d = length-drop a.at a.s.now in
    omega (arith, c.requires.3)

pub overflow_add-result-in-Ok : goal.overflow_add-result-in-Ok
overflow_add-result-in-Ok c =
    let answer : verdict c.scan_all.result ≡ front_check (drop c.args.at c.args.s.now) = rw part-from at c.scan_all.ensures.0 in
    let a = c.args in
    let i = end_within _ _ (sym (answer) ∙ ap verdict c.in-Ok.is) in
    let d = length-drop a.at a.s.now in
    omega (arith, c.requires.3)
