use native.Mathlib.Omega.{arith}
use mathlib.Core.Path.{sym, ◌∙◌}
use Rattle.flat_check.proofs.Chain.{too_short, too_long, wrong_version, wrong_offsets, wrong_ranges, wrong_reserved, all_right}
use Rattle.flat_check.proofs.check.Goals as goal
use Rattle.flat_check.proofs.check.Goals.{then-s-lt-SECTION_LEAST-via-then-s-lt-SECTION_LEAST, then-s-lt-SECTION_LEAST-via-else-s-lt-SECTION_LEAST+then-s-gt-SECTION_MOST}

pub returns-then-s-lt-SECTION_LEAST : goal.returns-then-s-lt-SECTION_LEAST
returns-then-s-lt-SECTION_LEAST c =
    elim c.then-s-lt-SECTION_LEAST.branch [
      | then-s-lt-SECTION_LEAST-via-then-s-lt-SECTION_LEAST w ↦ too_short _ (omega arith)
      | then-s-lt-SECTION_LEAST-via-else-s-lt-SECTION_LEAST+then-s-gt-SECTION_MOST w ↦ too_long _ (omega arith)
    ]

pub returns-then-s-ne-VERSION : goal.returns-then-s-ne-VERSION
returns-then-s-ne-VERSION c = wrong_version _ (omega arith) (omega arith) c.if-s-ne-VERSION.true

pub returns-then-not-fronts_right : goal.returns-then-not-fronts_right
returns-then-not-fronts_right c = wrong_offsets _ (omega arith) (omega arith) (omega arith) (sym (c.fronts_right.ensures.1 (c.if-not-fronts_right.true)))

pub returns-then-not-offsets_right : goal.returns-then-not-offsets_right
returns-then-not-offsets_right c = wrong_offsets _ (omega arith) (omega arith) (omega arith) (sym c.offsets_right.ensures ∙ c.if-not-offsets_right.true)

pub returns-then-not-ranges_right : goal.returns-then-not-ranges_right
returns-then-not-ranges_right c = wrong_ranges _ (omega arith) (omega arith) (omega arith) (sym c.offsets_right.ensures ∙ c.if-not-offsets_right.false) (sym c.ranges_right.ensures ∙ c.if-not-ranges_right.true)

pub returns-then-not-reserved_clear : goal.returns-then-not-reserved_clear
returns-then-not-reserved_clear c =
    wrong_reserved _ (omega arith) (omega arith) (omega arith)
    (sym c.offsets_right.ensures ∙ c.if-not-offsets_right.false)
    (sym c.ranges_right.ensures ∙ c.if-not-ranges_right.false)
    (sym c.reserved_clear.ensures ∙ c.if-not-reserved_clear.true)

pub returns : goal.returns
returns c =
    all_right _ (omega arith) (omega arith) (omega arith)
    (sym c.offsets_right.ensures ∙ c.if-not-offsets_right.false)
    (sym c.ranges_right.ensures ∙ c.if-not-ranges_right.false)
    (sym c.reserved_clear.ensures ∙ c.if-not-reserved_clear.false)
