use native.Mathlib.Omega.{arith}
use Prim.Native.Nat.{◌+◌, ◌*◌, ◌%◌, ◌≤◌}
use lib.ListN.{length}
use Rattle.stackmap.specs.Record.{record_bytes}
use Rattle.stackmap.specs.Section.{record_length}
use Rattle.stackmap.specs.Verdict.{chain}
use Rattle.stackmap.proofs.Steps.{times_most}
use Rattle.stackmap.proofs.Passed.{passed}
use Rattle.stackmap.proofs.Within.{header_inside}
use borrow.Author.Rules.{rules}
use Rattle.stackmap_record.proofs.record.record_bytes.Goals as goal

pub u16_at-locations-requires : goal.u16_at-locations-requires
u16_at-locations-requires c = let h = header_inside _ _ c.requires in omega arith

pub overflow_mul-pad : goal.overflow_mul-pad
overflow_mul-pad c = let h = times_most _ 12 c.u16_at-locations.result c.location_size.ensures.1 in search rules

pub overflow_add-pad : goal.overflow_add-pad
overflow_add-pad c = let h = times_most _ 12 c.u16_at-locations.result c.location_size.ensures.1 in search rules

pub overflow_add-end : goal.overflow_add-end
overflow_add-end c = let h = times_most _ 12 c.u16_at-locations.result c.location_size.ensures.1 in search rules

pub overflow_add-end-2 : goal.overflow_add-end-2
overflow_add-end-2 c = let h = times_most _ 12 c.u16_at-locations.result c.location_size.ensures.1 in search rules

pub u16_at-outs-requires : goal.u16_at-outs-requires
unfolding record_length
u16_at-outs-requires c =
    let h = rw (← c.u16_at-locations.ensures, ← c.location_size.ensures.0, ← c.locations_padding-padding.ensures.0) at c.requires in omega arith

-- all of the record is inside, in the words of the code

pub overflow_add-pad2 : goal.overflow_add-pad2
unfolding record_length
overflow_add-pad2 c =
    let room : 16 + c.location_size.result * c.u16_at-locations.result + c.locations_padding-padding.result + 4 + 4 * c.u16_at-outs.result + (c.u16_at-outs.result + 1) % 2 * 4
    ≤ length c.args.s.now = rw (← c.u16_at-locations.ensures, ← c.location_size.ensures.0, ← c.locations_padding-padding.ensures.0, ← c.u16_at-outs.ensures) at c.requires in
    let h = room in omega arith

pub overflow_add-pad2-2 : goal.overflow_add-pad2-2
unfolding record_length
overflow_add-pad2-2 c =
    let room : 16 + c.location_size.result * c.u16_at-locations.result + c.locations_padding-padding.result + 4 + 4 * c.u16_at-outs.result + (c.u16_at-outs.result + 1) % 2 * 4
    ≤ length c.args.s.now = rw (← c.u16_at-locations.ensures, ← c.location_size.ensures.0, ← c.locations_padding-padding.ensures.0, ← c.u16_at-outs.ensures) at c.requires in
    let h = room in omega arith

pub zero_bytes-requires : goal.zero_bytes-requires
unfolding record_length
zero_bytes-requires c =
    let room : 16 + c.location_size.result * c.u16_at-locations.result + c.locations_padding-padding.result + 4 + 4 * c.u16_at-outs.result + (c.u16_at-outs.result + 1) % 2 * 4
    ≤ length c.args.s.now = rw (← c.u16_at-locations.ensures, ← c.location_size.ensures.0, ← c.locations_padding-padding.ensures.0, ← c.u16_at-outs.ensures) at c.requires in
    let h = room in omega arith

pub returns-in_err-zero_bytes : goal.returns-in_err-zero_bytes
unfolding record_bytes record_length chain
returns-in_err-zero_bytes c =
    rw (
      ← c.u16_at-locations.ensures,
      ← c.location_size.ensures.0,
      ← c.locations_padding-padding.ensures.0,
      ← c.u16_at-outs.ensures,
      ← c.zero_bytes.ensures,
      c.in_err-zero_bytes.was,
      passed _ _ c.from_residual.ensures.1,
    )

pub each_location-requires : goal.each_location-requires
unfolding record_length
each_location-requires c =
    let room : 16 + c.location_size.result * c.u16_at-locations.result + c.locations_padding-padding.result + 4 + 4 * c.u16_at-outs.result + (c.u16_at-outs.result + 1) % 2 * 4
    ≤ length c.args.s.now = rw (← c.u16_at-locations.ensures, ← c.location_size.ensures.0, ← c.locations_padding-padding.ensures.0, ← c.u16_at-outs.ensures) at c.requires in
    let h = rw c.location_size.ensures.0 at (room) in omega arith

pub returns-in_err-each_location : goal.returns-in_err-each_location
unfolding record_bytes record_length chain
returns-in_err-each_location c =
    rw (
      ← c.u16_at-locations.ensures,
      ← c.location_size.ensures.0,
      ← c.locations_padding-padding.ensures.0,
      ← c.u16_at-outs.ensures,
      ← c.zero_bytes.ensures,
      c.in_ok-zero_bytes.was,
      ← c.each_location.ensures,
      c.in_err-each_location.was,
      passed _ _ c.from_residual-in_err-each_location.ensures.1,
    )

pub zero_bytes-requires-2 : goal.zero_bytes-requires-2
unfolding record_length
zero_bytes-requires-2 c =
    let room : 16 + c.location_size.result * c.u16_at-locations.result + c.locations_padding-padding.result + 4 + 4 * c.u16_at-outs.result + (c.u16_at-outs.result + 1) % 2 * 4
    ≤ length c.args.s.now = rw (← c.u16_at-locations.ensures, ← c.location_size.ensures.0, ← c.locations_padding-padding.ensures.0, ← c.u16_at-outs.ensures) at c.requires in
    let h = room in omega arith

pub returns-in_err-zero_bytes-2 : goal.returns-in_err-zero_bytes-2
unfolding record_bytes record_length chain
returns-in_err-zero_bytes-2 c =
    rw (
      ← c.u16_at-locations.ensures,
      ← c.location_size.ensures.0,
      ← c.locations_padding-padding.ensures.0,
      ← c.u16_at-outs.ensures,
      ← c.zero_bytes.ensures,
      c.in_ok-zero_bytes.was,
      ← c.each_location.ensures,
      c.in_ok-each_location.was,
      ← c.zero_bytes-2.ensures,
      c.in_err-zero_bytes-2.was,
      passed _ _ c.from_residual-in_err-zero_bytes-2.ensures.1,
    )

pub overflow_add-end-3 : goal.overflow_add-end-3
unfolding record_length
overflow_add-end-3 c =
    let room : 16 + c.location_size.result * c.u16_at-locations.result + c.locations_padding-padding.result + 4 + 4 * c.u16_at-outs.result + (c.u16_at-outs.result + 1) % 2 * 4
    ≤ length c.args.s.now = rw (← c.u16_at-locations.ensures, ← c.location_size.ensures.0, ← c.locations_padding-padding.ensures.0, ← c.u16_at-outs.ensures) at c.requires in
    let h = room in omega arith

pub all_live_outs-requires : goal.all_live_outs-requires
unfolding record_length
all_live_outs-requires c =
    let room : 16 + c.location_size.result * c.u16_at-locations.result + c.locations_padding-padding.result + 4 + 4 * c.u16_at-outs.result + (c.u16_at-outs.result + 1) % 2 * 4
    ≤ length c.args.s.now = rw (← c.u16_at-locations.ensures, ← c.location_size.ensures.0, ← c.locations_padding-padding.ensures.0, ← c.u16_at-outs.ensures) at c.requires in
    let h = room in omega arith

pub returns-in_err-all_live_outs : goal.returns-in_err-all_live_outs
unfolding record_bytes record_length chain
returns-in_err-all_live_outs c =
    rw (
      ← c.u16_at-locations.ensures,
      ← c.location_size.ensures.0,
      ← c.locations_padding-padding.ensures.0,
      ← c.u16_at-outs.ensures,
      ← c.zero_bytes.ensures,
      c.in_ok-zero_bytes.was,
      ← c.each_location.ensures,
      c.in_ok-each_location.was,
      ← c.zero_bytes-2.ensures,
      c.in_ok-zero_bytes-2.was,
      ← c.all_live_outs.ensures,
      c.in_err-all_live_outs.was,
      passed _ _ c.from_residual-in_err-all_live_outs.ensures.1,
    )

pub zero_bytes-requires-3 : goal.zero_bytes-requires-3
unfolding record_length
zero_bytes-requires-3 c =
    let room : 16 + c.location_size.result * c.u16_at-locations.result + c.locations_padding-padding.result + 4 + 4 * c.u16_at-outs.result + (c.u16_at-outs.result + 1) % 2 * 4
    ≤ length c.args.s.now = rw (← c.u16_at-locations.ensures, ← c.location_size.ensures.0, ← c.locations_padding-padding.ensures.0, ← c.u16_at-outs.ensures) at c.requires in
    let h = room in omega arith

pub returns-in_err-zero_bytes-3 : goal.returns-in_err-zero_bytes-3
unfolding record_bytes record_length chain
returns-in_err-zero_bytes-3 c =
    rw (
      ← c.u16_at-locations.ensures,
      ← c.location_size.ensures.0,
      ← c.locations_padding-padding.ensures.0,
      ← c.u16_at-outs.ensures,
      ← c.zero_bytes.ensures,
      c.in_ok-zero_bytes.was,
      ← c.each_location.ensures,
      c.in_ok-each_location.was,
      ← c.zero_bytes-2.ensures,
      c.in_ok-zero_bytes-2.was,
      ← c.all_live_outs.ensures,
      c.in_ok-all_live_outs.was,
      ← c.zero_bytes-3.ensures,
      c.in_err-zero_bytes-3.was,
      passed _ _ c.from_residual-in_err-zero_bytes-3.ensures.1,
    )

pub overflow_add-result-2 : goal.overflow_add-result-2
unfolding record_length
overflow_add-result-2 c =
    let room : 16 + c.location_size.result * c.u16_at-locations.result + c.locations_padding-padding.result + 4 + 4 * c.u16_at-outs.result + (c.u16_at-outs.result + 1) % 2 * 4
    ≤ length c.args.s.now = rw (← c.u16_at-locations.ensures, ← c.location_size.ensures.0, ← c.locations_padding-padding.ensures.0, ← c.u16_at-outs.ensures) at c.requires in
    let h = room in omega arith

pub returns : goal.returns
unfolding record_bytes record_length chain
returns c =
    rw (
      ← c.u16_at-locations.ensures,
      ← c.location_size.ensures.0,
      ← c.locations_padding-padding.ensures.0,
      ← c.u16_at-outs.ensures,
      ← c.zero_bytes.ensures,
      c.in_ok-zero_bytes.was,
      ← c.each_location.ensures,
      c.in_ok-each_location.was,
      ← c.zero_bytes-2.ensures,
      c.in_ok-zero_bytes-2.was,
      ← c.all_live_outs.ensures,
      c.in_ok-all_live_outs.was,
      ← c.zero_bytes-3.ensures,
      c.in_ok-zero_bytes-3.was,
    )
