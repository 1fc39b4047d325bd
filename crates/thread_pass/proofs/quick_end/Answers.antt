use mathlib.Core.Path.{◌≡◌}
use native.Mathlib.Omega.{arith}
use borrow.Author.Tests.{eqb-true}
use Rattle.stackmap_check.proofs.Pass.{shifted}
use Rattle.thread_pass.proofs.quick_end.Goals as goal

pub returns-then-end-gt1 : goal.returns-then-end-gt1
returns-then-end-gt1 c =
    λ h.
    let v = c.plain-end.ensures.1 c.args.constants (omega arith) in
    shifted _ _ _ v.0 v.1

pub other-requires : goal.other-requires
other-requires c = (c.requires, λ q. let e : c.plain-end.result ≡ 1 = eqb-true _ _ q in c.plain-end.ensures.0 c.args.constants (omega arith))

pub returns : goal.returns
returns c = λ h. let v = c.other.ensures h in shifted _ _ _ v.0 v.1
