use native.Mathlib.Omega.{arith}
use Prim.Native.Nat.{◌-◌}
use mathlib.Core.Path.{◌≡◌}
use Rattle.stackmap.specs.Layout.{location_size}
use Rattle.stackmap.specs.Verdict.{chain}
use Rattle.stackmap.specs.Fields.{many}
use Rattle.stackmap.specs.Fault.{locations_fault}
use Rattle.stackmap.proofs.Passed.{passed}
use Rattle.stackmap.proofs.Steps.{item_inside}
use Rattle.parser_fault.proofs.Faults.{locations_turn}
use Rattle.parser_fault.proofs.locations.Goals as goal

pub location-requires : goal.location-requires
location-requires c =
    let h = item_inside (location_size c.args.plan.old) c.args.n c.loop-i.i c.loop-i-test.true in
    rw c.location_size-step.ensures.0 (omega arith, omega arith)

pub returns-in_err-location : goal.returns-in_err-location
unfolding chain
returns-in_err-location c =
    rw (
      c.loop-i.invariant,
      locations_turn _ _ _ _ _ _ _ c.loop-i-test.true,
      ← c.location_size-step.ensures.0,
      ← c.in_err-location.ensures,
      passed _ _ c.from_residual.ensures.1,
    )

pub loop-i-preserved : goal.loop-i-preserved
unfolding chain
loop-i-preserved c =
    rw (
      c.loop-i.invariant,
      locations_turn _ _ _ _ _ _ _ c.loop-i-test.true,
      ← c.location_size-step.ensures.0,
      ← c.in_ok-location.ensures,
    )

pub returns : goal.returns
unfolding locations_fault many
returns c =
    let none : c.args.n - c.loop-i.i ≡ 0 = omega arith in
    let all : c.loop-i.i ≡ c.args.n = omega arith in
    rw (c.location_size-step.ensures.0, c.loop-i.invariant, none, all)
