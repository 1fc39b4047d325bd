use mathlib.Core.Path.{sym, ◌∙◌}
use native.Mathlib.Omega.{arith}
use Rattle.relocate.specs.Code.{record_of, pool_of}
use Rattle.controller.specs.Kept.{before_of}
use Rattle.controller_record.proofs.Keeping.{keeps_late, keeps_falls, keeps-body}
use Rattle.controller_record.proofs.keeps.Goals as goal

pub returns-then-number-ge-RECORDS_MOST : goal.returns-then-number-ge-RECORDS_MOST
returns-then-number-ge-RECORDS_MOST c =
    let a = c.args in
    λ e n d b. keeps_late (pool_of a.s.now) (before_of a.number a.last) e a.number a.address (record_of a.s.now a.at) n d b (omega arith)

pub returns-then-rises : goal.returns-then-rises
returns-then-rises c =
    let a = c.args in
    let h = sym c.rises.ensures ∙ c.if-rises.true in
    λ e n d b. keeps-body (pool_of a.s.now) (before_of a.number a.last) e a.number a.address (record_of a.s.now a.at) n d b (omega arith) h _ c.body_keeps.ensures

pub returns : goal.returns
returns c =
    let a = c.args in
    λ e n d b. keeps_falls (pool_of a.s.now) (before_of a.number a.last) e a.number a.address (record_of a.s.now a.at) n d b (omega arith) (sym c.rises.ensures ∙ c.if-rises.false)
