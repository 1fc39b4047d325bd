use Rattle.stackmap.specs.Verdict.{chain}
use Rattle.stackmap.proofs.Passed.{passed}
use Rattle.parser_draft.proofs.Ends.{items_crowded, items_whole}
use Rattle.parser_draft.proofs.grammar.items.Goals as goal

pub returns-in_err-end : goal.returns-in_err-end
unfolding chain
returns-in_err-end c =
    let s = c.requires in
    let e = c.in_err-end.ensures in
    rw (passed _ _ c.from_residual.ensures.1) (rw (items_crowded s.0 (rw c.if-survey.true at s.1), ← c.records_stop.ensures.0, ← e.0), e.1)

pub returns-then-survey : goal.returns-then-survey
unfolding chain
returns-then-survey c =
    let s = c.requires in
    let i = s.0.inside in
    (rw (items_crowded s.0 (rw c.if-survey.true at s.1), ← c.records_stop.ensures.0, ← c.in_ok-end.ensures.0), i)

pub returns : goal.returns
returns c =
    let s = c.requires in
    (rw (items_whole s.0 (rw c.if-survey.false at s.1), ← c.end-2.ensures.0), c.end-2.ensures.1)
