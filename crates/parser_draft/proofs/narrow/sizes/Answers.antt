use borrow.Author.Tests.{le-leb, lt-leb}
use native.Mathlib.Omega.{arith}
use Prim.Native.Nat.{◌-◌}
use mathlib.Core.Path.{◌≡◌}
use Rattle.stackmap.specs.Verdict.{must}
use Rattle.stackmap.specs.Fields.{many}
use Rattle.listing.specs.Listing.{small_sizes}
use Rattle.parser_draft.proofs.Limits.{sizes_turn}
use Rattle.parser_draft.proofs.narrow.sizes.Goals as goal

pub returns-then-u16_at-gt-OLD_SIZE_MOST : goal.returns-then-u16_at-gt-OLD_SIZE_MOST
unfolding must
returns-then-u16_at-gt-OLD_SIZE_MOST c =
    (rw (c.loop-i.invariant, sizes_turn _ _ _ _ c.loop-i-test.true, ← c.u16_at.ensures, lt-leb _ _ c.if-u16_at-gt-OLD_SIZE_MOST.true), omega arith)

pub loop-i-preserved : goal.loop-i-preserved
unfolding must
loop-i-preserved c =
    rw (c.loop-i.invariant, sizes_turn _ _ _ _ c.loop-i-test.true, ← c.u16_at.ensures, le-leb _ _ c.if-u16_at-gt-OLD_SIZE_MOST.false)

pub returns : goal.returns
unfolding small_sizes many
returns c =
    let none : c.args.n - c.loop-i.i ≡ 0 = omega arith in
    let all : c.loop-i.i ≡ c.args.n = omega arith in
    (rw (c.loop-i.invariant, none, all), tt)
