use native.Mathlib.Omega.{arith}
use Rattle.decimal.specs.Line.{line, decimal, digits, refused_text, at_text}
use Rattle.decimal.proofs.Digits.{digits-length, line-put}
use Rattle.program.proofs.put_line.Goals as goal

pub put_text-next-requires-2 : goal.put_text-next-requires-2
put_text-next-requires-2 c =
    let n = digits-length 20 c.args.number in
    let k₁ = c.put_text-next.auto.out in
    let k₂ = c.put_digits-next.auto.out in
    omega arith

pub put_digits-next-requires-2 : goal.put_digits-next-requires-2
put_digits-next-requires-2 c =
    let n = digits-length 20 c.args.number in
    let k₁ = c.put_text-next.auto.out in
    let k₂ = c.put_digits-next.auto.out in
    let k₃ = c.put_text-next-2.auto.out in
    (omega arith, omega arith, omega arith)

pub bounds-out-next : goal.bounds-out-next
bounds-out-next c =
    let n = digits-length 20 c.args.number in
    let m = digits-length 20 c.args.place in
    omega arith

pub overflow_add-result : goal.overflow_add-result
overflow_add-result c =
    let n = digits-length 20 c.args.number in
    let m = digits-length 20 c.args.place in
    omega arith

pub returns : goal.returns
unfolding line decimal
returns c =
    let a = c.args in
    let n = digits-length 20 a.number in
    let m = digits-length 20 a.place in
    let e =
    line-put a.out.now refused_text (digits 20 a.number) at_text (digits 20 a.place) 10
    c.put_text-next.result c.put_digits-next.result c.put_text-next-2.result c.put_digits-next-2.result
    c.put_text-next.ensures.0 c.put_digits-next.ensures.0 c.put_text-next-2.ensures.0 c.put_digits-next-2.ensures.0 in
    let w = c.put_text-next-2.ensures.1 in
    (e.1, rw (c.put_digits-next-2.ensures.1, w, c.put_digits-next.ensures.1, c.put_text-next.ensures.1) e.0, omega arith)
