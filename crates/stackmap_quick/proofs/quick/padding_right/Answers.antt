use Prim.Native.Nat.{◌+◌, ◌-◌}
use mathlib.Core.Path.{◌≡◌, sym, ◌∙◌}
use native.Mathlib.Omega.{arith}
use borrow.Author.Tests.{eqb-true}
use Rattle.wire.specs.Word.{word}
use Rattle.stackmap_quick.proofs.quick.padding_right.Goals as goal

pub returns-then-count-eq4 : goal.returns-then-count-eq4
returns-then-count-eq4 c =
    λ h.
    let a = c.args in
    let e : a.count ≡ 4 = omega arith in
    let p : a.at + a.count - 4 ≡ a.at = omega arith in
    rw e (rw p at (sym c.u32_at-x.ensures ∙ eqb-true _ _ h))

pub returns : goal.returns
unfolding word
returns c = λ h. let e : c.args.count ≡ 0 = eqb-true _ _ h in rw e
