use mathlib.Core.Path.{sym, ◌∙◌}
use borrow.Author.Tests.{le-leb, lt-leb}
use Rattle.stackmap.specs.Verdict.{must}
use Rattle.parser_walk.proofs.Plans.{planned_walk, planned-fault}
use Rattle.parser_walk.proofs.section.Goals as goal

pub returns-then-end-gt-SECTION_MOST : goal.returns-then-end-gt-SECTION_MOST
unfolding must
returns-then-end-gt-SECTION_MOST c = rw (planned-fault c.requires.0, ← c.function_size.ensures.0, lt-leb _ _ c.if-end-gt-SECTION_MOST.true)

pub returns-then-not-counts_right : goal.returns-then-not-counts_right
unfolding must
returns-then-not-counts_right c =
    rw (planned-fault c.requires.0, ← c.function_size.ensures.0, le-leb _ _ c.if-end-gt-SECTION_MOST.false, ← c.counts_right.ensures, c.if-not-counts_right.true)

pub records-requires : goal.records-requires
records-requires c =
    let p = c.requires in
    let f = c.function_size.ensures.0 in
    (rw f (planned_walk p.0 (rw f at c.if-end-gt-SECTION_MOST.false) (sym c.counts_right.ensures ∙ c.if-not-counts_right.false)), p.1)

pub returns : goal.returns
unfolding must
returns c =
    rw (
      planned-fault c.requires.0,
      ← c.function_size.ensures.0,
      le-leb _ _ c.if-end-gt-SECTION_MOST.false,
      ← c.counts_right.ensures,
      c.if-not-counts_right.false,
    )
    c.records.ensures
