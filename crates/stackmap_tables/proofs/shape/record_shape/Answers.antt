use mathlib.Core.Path.{sym, ◌∙◌}
use native.Mathlib.Omega.{arith}
use Rattle.stackmap.specs.Section.{record_length}
use Rattle.stackmap.proofs.Steps.{times_most}
use Rattle.stackmap.proofs.Parts.{count-locations, count-live_outs}
use borrow.Author.Rules.{rules}
use Rattle.stackmap_tables.proofs.shape.record_shape.Goals as goal

-- What is read is what the definitions read.

pub u16_at-locations-requires : goal.u16_at-locations-requires
unfolding record_length
u16_at-locations-requires c = search rules

pub overflow_mul-end : goal.overflow_mul-end
overflow_mul-end c = let h = times_most _ 12 c.u16_at-locations.result c.location_size.ensures.1 in search rules

pub overflow_add-end : goal.overflow_add-end
overflow_add-end c = let h = times_most _ 12 c.u16_at-locations.result c.location_size.ensures.1 in search rules

pub overflow_add-end-2 : goal.overflow_add-end-2
overflow_add-end-2 c = let h = times_most _ 12 c.u16_at-locations.result c.location_size.ensures.1 in search rules

pub overflow_add-end-3 : goal.overflow_add-end-3
overflow_add-end-3 c = let h = times_most _ 12 c.u16_at-locations.result c.location_size.ensures.1 in search rules

pub u16_at-outs-requires : goal.u16_at-outs-requires
unfolding record_length
u16_at-outs-requires c =
    let h = rw (← c.u16_at-locations.ensures, ← c.location_size.ensures.0, ← c.locations_padding.ensures.0) at c.requires in
    omega arith

pub overflow_add-begin : goal.overflow_add-begin
overflow_add-begin c = let h = times_most _ 12 c.u16_at-locations.result c.location_size.ensures.1 in search rules

pub overflow_add-result : goal.overflow_add-result
overflow_add-result c = let h = times_most _ 12 c.u16_at-locations.result c.location_size.ensures.1 in search rules

pub overflow_add-result-3 : goal.overflow_add-result-3
overflow_add-result-3 c = let h = times_most _ 12 c.u16_at-locations.result c.location_size.ensures.1 in search rules

pub returns : goal.returns
unfolding record_length
returns c =
    let a = c.u16_at-locations.ensures in
    let z = c.location_size.ensures.0 in
    let y = c.locations_padding.ensures.0 in
    let b = c.u16_at-outs.ensures in
    record {
      locations_are = a ∙ sym (count-locations _ _);
      outs_are = rw (count-live_outs, ← a, ← z, ← y) b;
      begins = rw (← a, ← z, ← y);
      ends = rw (← a, ← z, ← y, ← b);
    }
