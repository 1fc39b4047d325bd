use Rattle.std.proofs.Common.{sym, ap, ◌∙◌, arith, eq-eqb, ne_eqb}
use Rattle.stackmap.specs.Verdict.{verdict, must, chain, bind}
use Rattle.stackmap.specs.Check.{walk_check}
use Rattle.stackmap.proofs.Passed.{passed}
use Rattle.stackmap.proofs.Within.{begin_held, section_parts}
use Rattle.stackmap_check.proofs.check.Goals as goal

pub all_records-requires : goal.all_records-requires
all_records-requires c =
    let t = begin_held _ _ (sym c.begin.ensures ∙ ap verdict c.in_ok-at.was) in
    (t.walkable, let b = t.begins in let i = t.inside in omega arith)

pub returns-in_err-at : goal.returns-in_err-at
unfolding chain
returns-in_err-at c = rw (section_parts, ← c.begin.ensures, c.in_err-at.was, passed _ _ c.from_residual.ensures.1)

pub returns-in_err-end : goal.returns-in_err-end
unfolding chain bind walk_check
returns-in_err-end c =
    let t = begin_held _ _ (sym c.begin.ensures ∙ ap verdict c.in_ok-at.was) in
    rw (section_parts, ← c.begin.ensures, c.in_ok-at.was, ← t.begins, ← c.all_records.ensures, c.in_err-end.was, passed _ _ c.from_residual-in_err-end.ensures.1)

pub returns-then-end-s : goal.returns-then-end-s
unfolding chain bind must walk_check
returns-then-end-s c =
    let t = begin_held _ _ (sym c.begin.ensures ∙ ap verdict c.in_ok-at.was) in
    rw (section_parts, ← c.begin.ensures, c.in_ok-at.was, ← t.begins, ← c.all_records.ensures, c.in_ok-end.was, eq-eqb _ _ c.if-end-s.true)

pub returns-else-end-s : goal.returns-else-end-s
unfolding chain bind must walk_check
returns-else-end-s c =
    let t = begin_held _ _ (sym c.begin.ensures ∙ ap verdict c.in_ok-at.was) in
    rw (section_parts, ← c.begin.ensures, c.in_ok-at.was, ← t.begins, ← c.all_records.ensures, c.in_ok-end.was, ne_eqb _ _ c.if-end-s.false)
