use Prim.Native.Nat.{◌+◌, ◌-◌, ◌/◌, ◌%◌}
use mathlib.Core.Path.{refl}
use mathlib.Core.List.{[], ◌∷◌}
use lib.ListN.{length-append}
use Rattle.decimal.specs.Line.{digits}
use Rattle.decimal.proofs.Digits.{digits_last, digits_more, digits-length, shorter, sets_last}
use native.Mathlib.Omega.{arith}
use Rattle.decimal.proofs.+put_digits.Goals as goal

pub returns-then-n-lt10 : goal.returns-then-n-lt10
returns-then-n-lt10 t c =
    let a = c.args in
    let e = digits_last a.most a.n c.requires.1 c.if-n-lt10.true in
    rw e (refl, refl)

pub put_digits-next-requires : goal.put_digits-next-requires
put_digits-next-requires t c =
    let a = c.args in
    let h = shorter a.most a.n c.requires.1 c.if-n-lt10.false c.requires.2 in
    (omega arith, (omega arith, h.0, h.1))

pub bounds-out-next : goal.bounds-out-next
bounds-out-next t c =
    let a = c.args in
    let r = c.put_digits-next.ensures.0 in
    let l = digits-length (a.most - 1) (a.n / 10) in
    omega arith

pub overflow_add-result-2 : goal.overflow_add-result-2
overflow_add-result-2 t c =
    let a = c.args in
    let r = c.put_digits-next.ensures.0 in
    let l = digits-length (a.most - 1) (a.n / 10) in
    omega arith

pub returns : goal.returns
returns t c =
    let a = c.args in
    let w = c.put_digits-next in
    let e = digits_more a.most a.n c.requires.1 c.if-n-lt10.false in
    let l = length-append (digits (a.most - 1) (a.n / 10)) ((48 + a.n % 10) ∷ []) in
    (rw e (omega (arith, w.ensures.0, l)), rw (e, sets_last, w.ensures.1, w.ensures.0))
