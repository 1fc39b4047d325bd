use mathlib.Core.Path.{sym}
use mathlib.Core.Bool.{true≢false}
use native.Mathlib.Omega.{arith}
use Rattle.report_records.proofs.Tally.{passes, refuses, ends, tally_start, standing, there, sum_fits, tally_on, tally_stop, tally_end}
use Rattle.report_records.proofs.records.Goals as goal

pub loop-after-init : goal.loop-after-init
loop-after-init c = let q = c.requires in tally_start _ q.0 (rw q.1 at q.2) c.first-place.ensures (omega (arith, c.first-place.type_inv))

pub next_from-requires : goal.next_from-requires
next_from-requires c = let q = c.requires in standing _ q.0 (rw q.1 at q.2) c.loop-after.invariant

pub returns-in-Err : goal.returns-in-Err
returns-in-Err c =
    let q = c.requires in
    (tally_stop _ q.0 (rw q.1 at q.2) c.loop-after.invariant (refuses c.next_from.ensures c.in-Err.is), λ z. absurd (true≢false (sym z)))

pub returns-in-Ok-None : goal.returns-in-Ok-None
returns-in-Ok-None c =
    let q = c.requires in
    tally_end _ q.0 (rw q.1 at q.2) c.loop-after.invariant (ends c.args.s.now c.loop-after.place _ c.next_from.ensures c.in-Ok-None.is c.in-Ok-None.field-0-is)

pub record_counts-requires : goal.record_counts-requires
record_counts-requires c =
    let q = c.requires in
    let l = c.loop-after.invariant in
    (there _ q.0 (rw q.1 at q.2) l (passes c.next_from.ensures c.in-Ok-Some.is c.in-Ok-Some.field-0-is), l.old_is)

pub sum-counts-requires : goal.sum-counts-requires
sum-counts-requires c =
    let q = c.requires in
    sum_fits _ q.0 (rw q.1 at q.2) c.loop-after.invariant (passes c.next_from.ensures c.in-Ok-Some.is c.in-Ok-Some.field-0-is) (omega arith) c.record_counts.ensures.1

pub loop-after-smaller : goal.loop-after-smaller
loop-after-smaller c =
    let g = passes c.next_from.ensures c.in-Ok-Some.is c.in-Ok-Some.field-0-is in
    omega (arith, g.remaining, g.some_ahead)

pub loop-after-preserved : goal.loop-after-preserved
loop-after-preserved c =
    let q = c.requires in
    let r = c.record_counts.ensures in
    tally_on _ q.0 (rw q.1 at q.2) c.loop-after.invariant (passes c.next_from.ensures c.in-Ok-Some.is c.in-Ok-Some.field-0-is) r.0 r.1 c.sum-counts.ensures
