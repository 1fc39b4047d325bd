use borrow.Author.Rules.{rules}
use native.Mathlib.Omega.{arith}
use native.Mathlib.Nat.{sub-zero}
use Rattle.parser_items.proofs.Records.{record_inside_lem}
use Rattle.builder_records.proofs.RecordsPut.{ready-small, records-start, record_room, records_on, records-end}
use Rattle.builder_records.proofs.records.Goals as goal

pub loop-init : goal.loop-init
loop-init c = rw sub-zero (records-start c.requires.0 c.requires.2)

pub record_shape-shape-requires : goal.record_shape-shape-requires
record_shape-shape-requires c =
    let k = c.loop.invariant.ready.counted in
    record_inside_lem c.args.l.now c.loop.at (omega arith)

pub whole_record-requires : goal.whole_record-requires
whole_record-requires c =
    let w = c.loop.invariant in
    let s = c.record_shape-shape.ensures in
    let m = ready-small w.ready (omega arith) s in
    (s, m.0, m.1, record_room w (omega arith) s)

pub record_size-next-requires : goal.record_size-next-requires
record_size-next-requires c =
    let m = ready-small c.loop.invariant.ready (omega arith) c.record_shape-shape.ensures in
    omega arith

pub overflow_add-next : goal.overflow_add-next
overflow_add-next c =
    let r = record_room c.loop.invariant (omega arith) c.record_shape-shape.ensures in
    omega arith

pub loop-preserved : goal.loop-preserved
loop-preserved c =
    rw c.record_size-next.ensures
    (records_on c.loop.invariant (omega arith) c.record_shape-shape.ensures (omega arith) c.whole_record.new.out c.whole_record.ensures)

pub shape_of-out : goal.shape_of-out
shape_of-out c = let w = c.loop.invariant.long in search rules

pub returns : goal.returns
returns c = records-end c.loop.invariant (omega arith)
