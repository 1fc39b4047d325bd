use native.Mathlib.Omega.{arith}
use Prim.Native.Nat.{◌-◌}
use Rattle.flat.specs.Places.{registers_used}
use Rattle.flat.proofs.Steps.{greatest_on, greatest-none}
use Rattle.flat.proofs.offsets.registers_used.Goals as goal

-- What is left of the frames gives what all of them give.

pub loop-i-preserved : goal.loop-i-preserved
loop-i-preserved c = (omega arith, greatest_on _ _ _ _ _ _ _ (omega arith) c.loop-i.invariant.1 c.range_end.ensures.0 c.max-most.ensures)

pub returns : goal.returns
returns c = (
  omega (
    arith,
    greatest-none (registers_used c.args.s.now c.args.frames)
        c.loop-i.i (c.args.n - c.loop-i.i) (omega arith),
  ),
  omega arith,
)
