use Prim.Native.Nat.{◌-◌, ◌^◌, ◌≤◌}
use mathlib.Core.Path.{sym}
use mathlib.Core.Bool.{true≢false}
use native.Mathlib.Omega.{arith}
use borrow.Author.Tests.{leb-true}
use Rattle.stackmap_quick.proofs.quick.head_right.Goals as goal

pub returns-then-u16_at-ne0 : goal.returns-then-u16_at-ne0
returns-then-u16_at-ne0 c = λ h. absurd (true≢false (sym h))

pub returns : goal.returns
returns c =
    λ h.
    let g : c.u32_at-offset.result ≤ 2 ^ 64 - 1 - c.args.address = leb-true _ _ h in
    let f = c.u16_at.ensures in
    let o = c.u32_at-offset.ensures in
    (omega arith, omega arith)
