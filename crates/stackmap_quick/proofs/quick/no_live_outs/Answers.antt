use mathlib.Core.Path.{◌≡◌}
use native.Mathlib.Omega.{arith}
use lib.Bits.{bit_or}
use Rattle.stackmap_quick.proofs.Looks.{closed}
use Rattle.stackmap_quick.proofs.quick.no_live_outs.Goals as goal

pub returns-then-u64_at-eq0 : goal.returns-then-u64_at-eq0
returns-then-u64_at-eq0 c =
    λ h.
    let a = c.args in
    let p = c.requires in
    let z : bit_or c.u64_at.result c.u64_at-2.result ≡ 0 = omega arith in
    closed a.s.now a.pad a.padding p.1 p.0 (rw (c.u64_at.ensures, c.u64_at-2.ensures) at z)

pub returns-then-s-last : goal.returns-then-s-last
returns-then-s-last c = λ h. absurd (omega arith)

pub returns : goal.returns
returns c = λ h. absurd (omega arith)
