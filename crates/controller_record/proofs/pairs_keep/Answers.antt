use native.Mathlib.Omega.{arith}
use Rattle.relocate.specs.Code.{record_of, pool_of}
use Rattle.controller_record.proofs.Keeping.{pairs_wrong, pairs-right, pointers_are}
use Rattle.controller_record.proofs.pairs_keep.Goals as goal

pub returns-then-forms-count : goal.returns-then-forms-count
returns-then-forms-count c =
    let a = c.args in
    rw (pairs_wrong (pool_of a.s.now) (record_of a.s.now a.at) _ _ c.pairs_of-found.ensures.counted c.check_forms-forms.ensures.0 (omega arith))

pub returns : goal.returns
returns c =
    let a = c.args in
    let h = c.if-forms-count.false in
    let f = c.check_forms-forms.ensures in
    rw (pairs-right (pool_of a.s.now) (record_of a.s.now a.at) _ _ c.pairs_of-found.ensures.counted f.0 h, ← pointers_are (pool_of a.s.now) (record_of a.s.now a.at) _ (f.1 h))
