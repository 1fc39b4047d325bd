use Rattle.std.proofs.Common.{◌≡◌, ◌-◌, length, drop, arith, length-drop, rules}
use Rattle.stackmap.specs.Verdict.{verdict, shift}
use Rattle.stackmap.specs.Record.{record_check}
use Rattle.stackmap.proofs.Within.{part-from, record_within, Within}
use Rattle.stackmap_check.proofs.walk.exact_at.Goals as goal

pub check_record-requires : goal.check_record-requires
check_record-requires c = let h = c.check_record-arg-1.given in search rules

pub overflow_add-result : goal.overflow_add-result
overflow_add-result c =
    let answer : verdict c.check_record.result
    ≡ record_check c.args.old (drop c.args.at c.args.s.now) c.args.constants c.args.address = rw part-from at c.check_record.ensures in
    let inside : Within (length c.args.s.now - c.args.at) (verdict c.check_record.result) = rw (answer, ← length-drop) (record_within _ _ _ _) in
    let w = (rw c.in-Err.is at (inside)).most in omega arith

pub overflow_add-result-in-Ok : goal.overflow_add-result-in-Ok
overflow_add-result-in-Ok c =
    let answer : verdict c.check_record.result
    ≡ record_check c.args.old (drop c.args.at c.args.s.now) c.args.constants c.args.address = rw part-from at c.check_record.ensures in
    let inside : Within (length c.args.s.now - c.args.at) (verdict c.check_record.result) = rw (answer, ← length-drop) (record_within _ _ _ _) in
    let w = (rw c.in-Ok.is at (inside)).most in omega arith

pub returns-in-Err : goal.returns-in-Err
unfolding shift
returns-in-Err c =
    let answer : verdict c.check_record.result
    ≡ record_check c.args.old (drop c.args.at c.args.s.now) c.args.constants c.args.address = rw part-from at c.check_record.ensures in
    rw (← answer, c.in-Err.is)

pub returns-in-Ok : goal.returns-in-Ok
unfolding shift
returns-in-Ok c =
    let answer : verdict c.check_record.result
    ≡ record_check c.args.old (drop c.args.at c.args.s.now) c.args.constants c.args.address = rw part-from at c.check_record.ensures in
    rw (← answer, c.in-Ok.is)
