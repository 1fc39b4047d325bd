use mathlib.Core.Path.{ap}
use Rattle.stackmap.specs.Verdict.{verdict}
use mathlib.Core.Path.{sym, ◌∙◌}
use native.Mathlib.Omega.{arith}
use Rattle.stackmap.specs.Verdict.{chain}
use Rattle.stackmap.proofs.Within.{begin_held}
use Rattle.questions_find.specs.Scan.{front_check, told, scanned}
use Rattle.questions_find.proofs.find.scan.Goals as goal

pub search-requires : goal.search-requires
search-requires c =
    let t = begin_held _ _ (sym c.begin.ensures ∙ ap verdict c.in-Ok.is) in
    (t.walkable, t.begins, let b = t.begins in let i = t.inside in omega arith)

pub returns-in-Err : goal.returns-in-Err
unfolding scanned front_check told chain
returns-in-Err c = ((rw c.number.ensures at c.stopped.ensures) ∙ rw (sym c.begin.ensures ∙ ap verdict c.in-Err.is), rw c.stopped.ensures (record { few = omega arith; inside = omega arith }))

pub returns-in-Ok : goal.returns-in-Ok
unfolding scanned front_check chain
returns-in-Ok c = (c.search.ensures.0 ∙ rw (sym c.begin.ensures ∙ ap verdict c.in-Ok.is), c.search.ensures.1)
