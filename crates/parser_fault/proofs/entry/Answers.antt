use Rattle.stackmap.specs.Verdict.{chain}
use Rattle.stackmap.proofs.Passed.{passed}
use Rattle.parser_fault.proofs.Faults.{entry-over, entry-fits}
use native.Mathlib.Omega.{arith}
use Rattle.parser_fault.proofs.entry.Goals as goal

pub returns-then-offset-address : goal.returns-then-offset-address
returns-then-offset-address c =
    let a = c.args in
    rw (entry-over a.plan.old a.function a.place a.plan.constants c.requires.0 (omega arith) (omega (arith, c.owner_address-address.type_inv)))

pub returns-in_err-locations : goal.returns-in_err-locations
unfolding chain
returns-in_err-locations c =
    rw (
      entry-fits c.args.plan.old c.args.function c.args.place c.args.plan.constants c.requires.0 (omega (arith, c.owner_address-address.type_inv)),
      ← c.in_err-locations.ensures,
      passed _ _ c.from_residual.ensures.1,
    )

pub returns : goal.returns
unfolding chain
returns c =
    rw (
      entry-fits c.args.plan.old c.args.function c.args.place c.args.plan.constants c.requires.0 (omega (arith, c.owner_address-address.type_inv)),
      ← c.in_ok-locations.ensures,
      c.record_size.ensures,
    )
