use mathlib.Core.Path.{sym, ap, ◌∙◌}
use Rattle.stackmap.specs.Verdict.{verdict}
use native.Mathlib.Omega.{arith}
use Rattle.index_rows.proofs.Walk.{tabled}
use Rattle.index_fill.proofs.Whole.{accepted, answers, fill_refused, fill_old, fill_short, fill_all}
use Rattle.index_fill.proofs.fill.Goals as goal

pub is_old-old-requires : goal.is_old-old-requires
is_old-old-requires c =
    let t = tabled _ (accepted _ c.check.ensures (ap verdict c.in-Ok.is)) in
    let i = t.inside in
    omega arith

pub u32_at-records-requires : goal.u32_at-records-requires
u32_at-records-requires c =
    let t = tabled _ (accepted _ c.check.ensures (ap verdict c.in-Ok.is)) in
    let i = t.inside in
    omega arith

pub returns-then-old : goal.returns-then-old
returns-then-old c =
    let r = c.refused-then-old.ensures in
    let k = accepted _ c.check.ensures (ap verdict c.in-Ok.is) in
    answers (rw (r.0, r.1, r.2) (fill_old _ k _ (sym c.is_old-old.ensures ∙ c.if-old.true)))

pub returns-then-index-entries : goal.returns-then-index-entries
returns-then-index-entries c =
    let r = c.refused-then-index-entries.ensures in
    let k = accepted _ c.check.ensures (ap verdict c.in-Ok.is) in
    let new = sym c.is_old-old.ensures ∙ c.if-old.false in
    answers (rw (r.0, r.1, r.2) (fill_short _ k _ new (rw c.u32_at-records.ensures at c.if-index-entries.true)))

pub put_index-requires : goal.put_index-requires
put_index-requires c =
    let k = accepted _ c.check.ensures (ap verdict c.in-Ok.is) in
    let new = sym c.is_old-old.ensures ∙ c.if-old.false in
    (k, new, c.u32_at-records.ensures, omega arith, omega arith)

pub returns-in-Err : goal.returns-in-Err
returns-in-Err c =
    let r = c.refused.ensures in
    answers (rw (r.0, r.1, r.2, c.number.ensures) (fill_refused _ _ (sym c.check.ensures ∙ ap verdict c.in-Err.is)))

pub returns-else-index-entries : goal.returns-else-index-entries
returns-else-index-entries c =
    let k = accepted _ c.check.ensures (ap verdict c.in-Ok.is) in
    let new = sym c.is_old-old.ensures ∙ c.if-old.false in
    answers (fill_all _ k _ _ new c.u32_at-records.ensures (omega arith) c.put_index.ensures)
