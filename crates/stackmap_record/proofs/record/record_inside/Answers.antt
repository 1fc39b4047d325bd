use native.Mathlib.Omega.{arith}
use Prim.Native.Nat.{◌<◌}
use borrow.Author.Tests.{lt-leb, le-leb}
use lib.ListN.{length}
use Rattle.stackmap.specs.Record.{record_inside}
use Rattle.stackmap.specs.Section.{record_length}
use Rattle.stackmap.specs.Verdict.{must}
use Rattle.stackmap.proofs.Steps.{times_most}
use borrow.Author.Rules.{rules}
use Rattle.stackmap_record.proofs.record.record_inside.Goals as goal

pub returns-then-s-lt-RECORD_HEAD_SIZE : goal.returns-then-s-lt-RECORD_HEAD_SIZE
unfolding record_inside record_length must
returns-then-s-lt-RECORD_HEAD_SIZE c =
    let a = c.args in
    let h : length a.s.now < record_length a.old a.s.now = omega arith in
    rw (lt-leb _ _ h)

pub overflow_mul-pad : goal.overflow_mul-pad
overflow_mul-pad c = let h = times_most _ 12 c.u16_at-locations.result c.location_size.ensures.1 in search rules

pub overflow_add-pad : goal.overflow_add-pad
overflow_add-pad c = let h = times_most _ 12 c.u16_at-locations.result c.location_size.ensures.1 in search rules

pub overflow_add-end : goal.overflow_add-end
overflow_add-end c = let h = times_most _ 12 c.u16_at-locations.result c.location_size.ensures.1 in search rules

pub overflow_add-end-2 : goal.overflow_add-end-2
overflow_add-end-2 c = let h = times_most _ 12 c.u16_at-locations.result c.location_size.ensures.1 in search rules

pub returns-then-s-end : goal.returns-then-s-end
unfolding record_inside record_length must
returns-then-s-end c =
    let a = c.args in
    let h : length a.s.now < record_length a.old a.s.now =
    rw (← c.u16_at-locations.ensures, ← c.location_size.ensures.0, ← c.locations_padding.ensures.0) (omega arith) in
    rw (lt-leb _ _ h)

pub returns-then-s-next : goal.returns-then-s-next
unfolding record_inside record_length must
returns-then-s-next c =
    rw (
      ← c.u16_at-locations.ensures,
      ← c.location_size.ensures.0,
      ← c.locations_padding.ensures.0,
      ← c.u16_at-outs.ensures,
      lt-leb _ _ c.if-s-next.true,
    )

pub returns : goal.returns
unfolding record_inside record_length must
returns c =
    rw (
      ← c.u16_at-locations.ensures,
      ← c.location_size.ensures.0,
      ← c.locations_padding.ensures.0,
      ← c.u16_at-outs.ensures,
      le-leb _ _ c.if-s-next.false,
    )
