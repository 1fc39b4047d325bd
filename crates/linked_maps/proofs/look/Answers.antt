use Prim.Native.Nat.{◌-◌}
use mathlib.Core.Path.{◌≡◌}
use native.Mathlib.Omega.{arith}
use lib.ListN.{length, drop, length-drop}
use Rattle.stackmap.specs.Verdict.{verdict, shift}
use Rattle.stackmap.specs.Check.{section_check}
use Rattle.stackmap.proofs.Within.{part-from, Within}
use Rattle.linked.proofs.Places.{section_within}
use Rattle.linked_maps.proofs.look.Goals as goal

pub overflow_add-result : goal.overflow_add-result
overflow_add-result c =
    let answer : verdict c.check.result ≡ section_check (drop c.args.at c.args.s.now) = rw part-from at c.check.ensures in
    let inside : Within (length c.args.s.now - c.args.at) (verdict c.check.result) = rw (answer, ← length-drop) (section_within _) in
    let w = (rw c.in-Ok.is at (inside)).most in omega arith

pub overflow_add-result-in-Err : goal.overflow_add-result-in-Err
overflow_add-result-in-Err c =
    let answer : verdict c.check.result ≡ section_check (drop c.args.at c.args.s.now) = rw part-from at c.check.ensures in
    let inside : Within (length c.args.s.now - c.args.at) (verdict c.check.result) = rw (answer, ← length-drop) (section_within _) in
    let w = (rw c.in-Err.is at (inside)).most in omega arith

pub returns-in-Ok : goal.returns-in-Ok
unfolding shift
returns-in-Ok c =
    let answer : verdict c.check.result ≡ section_check (drop c.args.at c.args.s.now) = rw part-from at c.check.ensures in
    rw (← answer, c.in-Ok.is)

pub returns-in-Err : goal.returns-in-Err
unfolding shift
returns-in-Err c =
    let answer : verdict c.check.result ≡ section_check (drop c.args.at c.args.s.now) = rw part-from at c.check.ensures in
    rw (← answer, c.in-Err.is)
