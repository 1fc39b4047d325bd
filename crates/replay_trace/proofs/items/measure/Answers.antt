use Prim.Native.Nat.{◌/◌}
use mathlib.Core.Path.{refl}
use mathlib.Core.Bool.{true, false, not}
use borrow.Author.Tests.{tests}
use Rattle.std.proofs.Common.{rules, arith, ◌≡◌, length}
use Rattle.std.proofs.lemmas.Iterator.{first_from_Range}
use Rattle.replay_trace.proofs.Passing.{first-most, shapes_first, step_at-number}
use Rattle.replay_trace.proofs.items.measure.Goals as goal

pub overflow_mul-n : goal.overflow_mul-n
overflow_mul-n c =
    let t = c.args.t.now in
    let first =
    first_from_Range _ _ _ c.find.result (λ k. not (step_at-number t k) ≡ true) (λ k. not (step_at-number t k) ≡ false) c.find.ensures.ran
    (λ x q k. search (rules, tests)) (λ x q k. search (rules, tests)) in
    let m = first-most t (length t / 284) c.find.result first in
    omega arith

pub finish-requires : goal.finish-requires
finish-requires c =
    let t = c.args.t.now in
    let first =
    first_from_Range _ _ _ c.find.result (λ k. not (step_at-number t k) ≡ true) (λ k. not (step_at-number t k) ≡ false) c.find.ensures.ran
    (λ x q k. search (rules, tests)) (λ x q k. search (rules, tests)) in
    let m = first-most t (length t / 284) c.find.result first in
    omega arith

pub returns : goal.returns
returns c =
    let t = c.args.t.now in
    let first =
    first_from_Range _ _ _ c.find.result (λ k. not (step_at-number t k) ≡ true) (λ k. not (step_at-number t k) ≡ false) c.find.ensures.ran
    (λ x q k. search (rules, tests)) (λ x q k. search (rules, tests)) in
    rw (c.finish.ensures, c.unwrap_or-n.ensures) (shapes_first t (length t / 284) c.find.result refl first)
