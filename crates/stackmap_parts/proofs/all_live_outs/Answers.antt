use borrow.Author.Tests.{eq-eqb, ne_eqb}
use native.Mathlib.Omega.{arith}
use Prim.Native.Nat.{◌-◌}
use Rattle.std.specs.Prelude.{◌≡◌}
use Rattle.stackmap.specs.Record.{live_outs}
use Rattle.stackmap.specs.Verdict.{must}
use Rattle.stackmap.proofs.Steps.{live_outs_turn}
use Rattle.stackmap_parts.proofs.all_live_outs.Goals as goal

pub returns-then-s-zero-ne0 : goal.returns-then-s-zero-ne0
unfolding must
returns-then-s-zero-ne0 c =
    rw (c.loop-i.invariant, live_outs_turn _ _ _ _ c.loop-i-test.true, ne_eqb _ _ c.if-s-zero-ne0.true)

pub loop-i-preserved : goal.loop-i-preserved
unfolding must
loop-i-preserved c =
    rw (c.loop-i.invariant, live_outs_turn _ _ _ _ c.loop-i-test.true, eq-eqb _ _ c.if-s-zero-ne0.false)

pub returns : goal.returns
unfolding live_outs must
returns c =
    let none : c.args.count - c.loop-i.i ≡ 0 = omega arith in
    let all : c.loop-i.i ≡ c.args.count = omega arith in
    rw (c.loop-i.invariant, none, all)
