use mathlib.Core.Path.{ap}
use Rattle.stackmap.specs.Verdict.{verdict}
use mathlib.Core.Path.{sym, ◌∙◌}
use native.Mathlib.Omega.{arith}
use Rattle.stackmap.proofs.Within.{begin_held}
use Rattle.questions.specs.Questions.{record_place}
use Rattle.questions.proofs.Asked.{ask-refused, ask-begun}
use Rattle.questions_locate.proofs.locate.Goals as goal

pub search-requires : goal.search-requires
search-requires c =
    let t = begin_held _ _ (sym c.begin.ensures ∙ ap verdict c.in-Ok.is) in
    (t.walkable, t.begins, let b = t.begins in let i = t.inside in omega arith)

pub returns-in-Err : goal.returns-in-Err
unfolding record_place
returns-in-Err c = ((rw c.number.ensures at c.refused.ensures) ∙ sym (ask-refused _ _ _ _ _ (sym c.begin.ensures ∙ ap verdict c.in-Err.is)), rw c.refused.ensures (omega arith))

pub returns-in-Ok : goal.returns-in-Ok
unfolding record_place
returns-in-Ok c = (c.search.ensures.0 ∙ sym (ask-begun _ _ _ _ (sym c.begin.ensures ∙ ap verdict c.in-Ok.is)), c.search.ensures.1)
