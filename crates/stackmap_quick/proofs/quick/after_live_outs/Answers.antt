use native.Mathlib.Omega.{arith}
use Rattle.stackmap_quick.proofs.quick.after_live_outs.Goals as goal

pub returns-then-live_outs : goal.returns-then-live_outs
returns-then-live_outs c =
    λ h.
    let n = c.u16_at-outs.ensures in
    let z = c.u16_at.ensures in
    record {
      zeros = omega arith;
      outs = rw n at (c.live_outs.ensures c.if-live_outs.true);
      padding = rw n at (c.padding_right.ensures c.if-padding_right.true);
      ends = rw (← n);
      inside = omega arith;
    }
