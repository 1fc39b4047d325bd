use native.Mathlib.Omega.{arith}
use Prim.Native.Nat.{◌-◌}
use Rattle.std.specs.Prelude.{◌≡◌}
use Rattle.stackmap.specs.Layout.{location_size}
use Rattle.stackmap.specs.Record.{locations}
use Rattle.stackmap.specs.Verdict.{chain}
use Rattle.stackmap.proofs.Passed.{passed}
use Rattle.stackmap.proofs.Steps.{item_inside, locations_turn}
use Rattle.stackmap_parts.proofs.each_location.Goals as goal

pub location-requires : goal.location-requires
location-requires c =
    let h = item_inside (location_size c.args.old) c.args.count c.loop-i.i c.loop-i-test.true in
    rw c.location_size-size.ensures.0 (omega arith)

pub returns-in_err-location : goal.returns-in_err-location
unfolding chain
returns-in_err-location c =
    rw (
      c.loop-i.invariant,
      locations_turn _ _ _ _ _ _ c.loop-i-test.true,
      ← c.location_size-size.ensures.0,
      ← c.location.ensures,
      c.in_err-location.was,
      passed _ _ c.from_residual.ensures.1,
    )

pub loop-i-preserved : goal.loop-i-preserved
unfolding chain
loop-i-preserved c =
    rw (
      c.loop-i.invariant,
      locations_turn _ _ _ _ _ _ c.loop-i-test.true,
      ← c.location_size-size.ensures.0,
      ← c.location.ensures,
      c.in_ok-location.was,
    )

pub returns : goal.returns
unfolding locations chain
returns c =
    let none : c.args.count - c.loop-i.i ≡ 0 = omega arith in
    let all : c.loop-i.i ≡ c.args.count = omega arith in
    rw (c.location_size-size.ensures.0, c.loop-i.invariant, none, all)
