use native.Mathlib.Omega.{arith}
use mathlib.Core.Path.{sym, ◌∙◌}
use Rattle.flat_check.proofs.Chain.{accepted-told}
use Rattle.flat_read.proofs.Asked.{item_inside}
use Rattle.flat_read.proofs.place.Goals as goal

pub overflow_mul-result : goal.overflow_mul-result
overflow_mul-result c =
    let a = sym c.check-refusal.ensures ∙ c.if-refusal-ne0.false in
    let i = item_inside c.args.array _ c.args.k a (omega (arith, c.count.ensures)) in
    let t = accepted-told _ a in
    rw c.size.ensures (omega arith)

pub overflow_add-result : goal.overflow_add-result
overflow_add-result c =
    let a = sym c.check-refusal.ensures ∙ c.if-refusal-ne0.false in
    let i = item_inside c.args.array _ c.args.k a (omega (arith, c.count.ensures)) in
    let t = accepted-told _ a in
    rw (c.start.ensures, c.size.ensures) (omega arith)

pub returns : goal.returns
returns c =
    let a = sym c.check-refusal.ensures ∙ c.if-refusal-ne0.false in
    let i = item_inside c.args.array _ c.args.k a (omega (arith, c.count.ensures)) in
    record {
      accepted = a;
      there = omega (arith, c.count.ensures);
      place = rw (c.start.ensures, c.size.ensures);
      inside = rw (c.start.ensures, c.size.ensures) i;
    }
