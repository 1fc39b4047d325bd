use mathlib.Core.Path.{refl}
use mathlib.Core.List.{[], ◌∷◌}
use native.Mathlib.Omega.{arith}
use Rattle.moves.specs.Slots.{state}
use Rattle.moves.specs.Table.{look_up}
use Rattle.relocate.specs.Code.{record_of, pool_of, pointers_by}
use Rattle.explain_rows.specs.Written.{slots_by}
use Rattle.explain_rows.proofs.Writing.{row_is, put_both, rowing_start, rowing_on, rowing_end}
use Rattle.explain_rows.proofs.put_rows.Goals as goal

pub returns : goal.returns
returns c = rowing_end _ _ _ _ _ _ _ c.loop-k.invariant (omega arith)

pub loop-k-init : goal.loop-k-init
loop-k-init c = rowing_start _ _ _ _ _

pub overflow_mul-next : goal.overflow_mul-next
overflow_mul-next c = omega (arith, c.requires.5)

pub overflow_add-next : goal.overflow_add-next
overflow_add-next c = omega (arith, c.requires.5)

pub pair_of-requires : goal.pair_of-requires
pair_of-requires c = c.requires.0

pub put_head-requires : goal.put_head-requires
put_head-requires c = omega (arith, c.requires.5, c.loop-k.invariant.wide)

pub overflow_add-next-in-loop-k : goal.overflow_add-next-in-loop-k
overflow_add-next-in-loop-k c = omega (arith, c.requires.5, c.loop-k.invariant.wide)

pub put_slots-requires : goal.put_slots-requires
put_slots-requires c = (c.requires.0, c.requires.1, c.requires.2, c.requires.3, c.requires.4, omega arith, omega (arith, c.requires.5, c.loop-k.invariant.wide))

pub loop-k-preserved : goal.loop-k-preserved
loop-k-preserved c =
    let a = c.args in
    rowing_on _ _ _ _ _ _ _ _ c.loop-k.invariant (omega arith)
    (put_both _ _ _ _ 2 (a.position ∷ c.pair_of.result ∷ [])
    (slots_by (state a.window.now a.registers.now) a.live.now a.bases.now a.derived.now (look_up a.olds.now a.news.now) a.pointers
    (pointers_by a.old (pool_of a.s.now) a.frame (record_of a.s.now a.at)) a.frame.sp c.loop-k.k) _
    c.put_head.ensures c.put_slots.ensures refl
    (row_is (state a.window.now a.registers.now) a.live.now a.bases.now a.derived.now (look_up a.olds.now a.news.now) a.pointers
    (pointers_by a.old (pool_of a.s.now) a.frame (record_of a.s.now a.at)) a.frame.sp a.position c.loop-k.k _
    (c.pair_of.ensures a.frame)))

pub shape_of-rows : goal.shape_of-rows
shape_of-rows c = c.loop-k.invariant.wide
