use borrow.Author.Tests.{eq-eqb, ne_eqb}
use native.Mathlib.Omega.{arith}
use Prim.Native.Nat.{◌-◌}
use mathlib.Core.Path.{◌≡◌}
use Rattle.stackmap.specs.Verdict.{must}
use Rattle.stackmap.specs.Fields.{many}
use Rattle.listing.specs.Listing.{no_counts}
use Rattle.parser_draft.proofs.Limits.{counts_turn}
use Rattle.parser_draft.proofs.narrow.counts.Goals as goal

pub returns-then-u64_at-ne0 : goal.returns-then-u64_at-ne0
unfolding must
returns-then-u64_at-ne0 c =
    (rw (c.loop-i.invariant, counts_turn _ _ _ c.loop-i-test.true, ← c.u64_at.ensures, ne_eqb _ _ c.if-u64_at-ne0.true), omega arith)

pub loop-i-preserved : goal.loop-i-preserved
unfolding must
loop-i-preserved c =
    rw (c.loop-i.invariant, counts_turn _ _ _ c.loop-i-test.true, ← c.u64_at.ensures, eq-eqb _ _ c.if-u64_at-ne0.false)

pub returns : goal.returns
unfolding no_counts many
returns c =
    let none : c.args.functions - c.loop-i.i ≡ 0 = omega arith in
    let all : c.loop-i.i ≡ c.args.functions = omega arith in
    (rw (c.loop-i.invariant, none, all), tt)
