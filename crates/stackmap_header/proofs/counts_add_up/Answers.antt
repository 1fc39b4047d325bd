use native.Mathlib.Omega.{arith}
use Prim.Native.Nat.{◌-◌}
use Rattle.std.specs.Prelude.{◌≡◌}
use Rattle.stackmap.specs.Section.{read_function}
use Rattle.stackmap.proofs.Steps.{add-over, add_turn, add-end}
use Rattle.stackmap_header.proofs.counts_add_up.Goals as goal

pub loop-f-init : goal.loop-f-init
loop-f-init c =
    let all : c.args.functions - 0 ≡ c.args.functions = omega arith in
    record { same = rw all (omega arith) }

pub returns-then-count-rest : goal.returns-then-count-rest
unfolding read_function
returns-then-count-rest c = add-over c.loop-f.invariant c.u64_at-count.ensures (omega arith) (omega arith)

pub loop-f-preserved : goal.loop-f-preserved
unfolding read_function
loop-f-preserved c = add_turn 16 c.loop-f.f c.loop-f.invariant c.u64_at-count.ensures c.loop-f-test.true (omega arith)

pub returns : goal.returns
returns c = add-end c.loop-f.invariant (omega arith)
