use Rattle.moves.specs.Slots.{state}
use Rattle.moves.specs.Table.{look_up}
use Rattle.relocate.specs.Code.{record_of, pool_of, pointers_by}
use Rattle.explain_rows.specs.Written.{row_by}
use Rattle.explain_rows.proofs.Writing.{row_length, Rowing}
use Rattle.explain_rows.proofs.put_rows.Given as goal

abbrev pub invariant-loop-k : goal.invariant-loop-k
invariant-loop-k l = Rowing (row_by (state l.window l.registers) l.live l.bases l.derived (look_up l.olds l.news) l.pointers (pointers_by l.old (pool_of l.s) l.frame (record_of l.s l.at)) l.frame.sp l.position)
    (row_length (state l.window l.registers) l.live l.bases l.derived (look_up l.olds l.news) l.pointers (pointers_by l.old (pool_of l.s) l.frame (record_of l.s l.at)) l.frame.sp l.position) l.to l.pointers l.initial.rows l.rows l.k
