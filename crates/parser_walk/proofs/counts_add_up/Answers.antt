use native.Mathlib.Omega.{arith}
use native.Mathlib.Nat.{sub-zero}
use Prim.Native.Nat.{◌+◌, ◌*◌, ◌-◌}
use mathlib.Core.Path.{◌≡◌}
use Rattle.stackmap.proofs.Steps.{add-over, add_on, add-end}
use Rattle.listing.specs.Listing.{listed_function}
use Rattle.parser_walk.proofs.counts_add_up.Goals as goal

pub loop-i-init : goal.loop-i-init
loop-i-init c = rw sub-zero (record { same = omega arith })

pub returns-then-count-rest : goal.returns-then-count-rest
unfolding listed_function
returns-then-count-rest c = add-over c.loop-i.invariant c.u64_at-count.ensures (omega arith) (omega arith)

pub loop-i-preserved : goal.loop-i-preserved
unfolding listed_function
loop-i-preserved c =
    let fewer : c.args.functions - (c.loop-i.i + 1) ≡ c.args.functions - c.loop-i.i - 1 = omega arith in
    let next : 25 * (c.loop-i.i + 1) ≡ 25 * c.loop-i.i + 25 = omega arith in
    rw (fewer, next) (add_on c.loop-i.invariant c.u64_at-count.ensures (omega arith) (omega arith))

pub returns : goal.returns
returns c = add-end c.loop-i.invariant (omega arith)
