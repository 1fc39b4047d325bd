use Rattle.stackmap.proofs.Passed.{passed}
use mathlib.Core.Path.{ap}
use Rattle.stackmap.specs.Verdict.{verdict}
use mathlib.Core.Path.{sym, ◌∙◌}
use native.Mathlib.Omega.{arith}
use Rattle.stackmap.proofs.Within.{begin_held}
use Rattle.thread_marks.proofs.Marks.{grown-none}
use Rattle.thread_search.proofs.Walked.{front_stop, front_on, never_valid}
use Rattle.thread_search.proofs.search.scan_all.Goals as goal

pub walk_all-requires : goal.walk_all-requires
walk_all-requires c =
    let t = begin_held _ _ (sym c.begin.ensures ∙ ap verdict c.in_ok-at.was) in
    (t.walkable, t.begins, (let b = t.begins in let i = t.inside in omega arith), c.requires.0, c.requires.1, c.requires.2, omega (arith, c.requires.3))

pub returns-in_err-at : goal.returns-in_err-at
returns-in_err-at c = rw (passed _ _ c.from_residual.ensures.1) (front_stop _ _ _ (sym c.begin.ensures ∙ ap verdict c.in_err-at.was), record { noted_all = λ e z. never_valid z; grown = grown-none _ _ })

pub returns : goal.returns
returns c = (c.walk_all.ensures.0 ∙ front_on _ _ (sym c.begin.ensures ∙ ap verdict c.in_ok-at.was), c.walk_all.ensures.1)
