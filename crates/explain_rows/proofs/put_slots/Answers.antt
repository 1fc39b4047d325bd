use native.Mathlib.Omega.{arith}
use Rattle.std.proofs.Common.{rules}
use lib.ListN.{get_or}
use Rattle.moves.specs.Slots.{state}
use Rattle.moves.specs.Table.{look_up}
use Rattle.relocate.specs.Code.{record_of, pool_of, pointers_by}
use Rattle.explain_rows.specs.Written.{slot_by}
use Rattle.explain_rows.proofs.Writing.{slot-length, slots-null, slots-live, put_both, put_nulls}
use Rattle.explain_rows.proofs.put_slots.Goals as goal

pub returns-then-live-k-eq0 : goal.returns-then-live-k-eq0
returns-then-live-k-eq0 c =
    let a = c.args in
    put_nulls a.rows.now _ a.to _ _ (c.fill.ensures.after (λ y e. search rules)) (omega arith) (omega arith) (omega arith) _
    (slots-null (state a.window.now a.registers.now) a.live.now a.bases.now a.derived.now (look_up a.olds.now a.news.now) a.pointers
    (pointers_by a.old (pool_of a.s.now) a.frame (record_of a.s.now a.at)) a.frame.sp a.k c.if-live-k-eq0.true)

pub returns : goal.returns
returns c =
    let a = c.args in
    let b = get_or a.bases.now a.k 0 in
    let d = get_or a.derived.now a.k 0 in
    put_both _ _ _ _ 7 (slot_by (state a.window.now a.registers.now) a.live.now a.bases.now a.derived.now (look_up a.olds.now a.news.now) a.pointers
    (pointers_by a.old (pool_of a.s.now) a.frame (record_of a.s.now a.at)) a.frame.sp b)
    (slot_by (state a.window.now a.registers.now) a.live.now a.bases.now a.derived.now (look_up a.olds.now a.news.now) a.pointers
    (pointers_by a.old (pool_of a.s.now) a.frame (record_of a.s.now a.at)) a.frame.sp d) _ c.put_told.ensures c.put_told-2.ensures
    (slot-length (state a.window.now a.registers.now) a.live.now a.bases.now a.derived.now (look_up a.olds.now a.news.now) a.pointers
    (pointers_by a.old (pool_of a.s.now) a.frame (record_of a.s.now a.at)) a.frame.sp b)
    (slots-live (state a.window.now a.registers.now) a.live.now a.bases.now a.derived.now (look_up a.olds.now a.news.now) a.pointers
    (pointers_by a.old (pool_of a.s.now) a.frame (record_of a.s.now a.at)) a.frame.sp a.k c.if-live-k-eq0.false)

pub put_told-requires : goal.put_told-requires
put_told-requires c = (c.requires.0, c.requires.1, c.requires.2, c.requires.3, c.requires.4, c.requires.2.base_in c.args.k c.requires.5 c.if-live-k-eq0.false, omega (arith, c.requires.6))

pub put_told-requires-2 : goal.put_told-requires-2
put_told-requires-2 c = (c.requires.0, c.requires.1, c.requires.2, c.requires.3, c.requires.4, c.requires.2.derived_in c.args.k c.requires.5 c.if-live-k-eq0.false, omega (arith, c.requires.6))
