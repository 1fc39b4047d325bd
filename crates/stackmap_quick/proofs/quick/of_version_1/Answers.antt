use native.Mathlib.Omega.{arith}
use Rattle.stackmap_quick.proofs.quick.of_version_1.Goals as goal

pub returns-then-s-pad : goal.returns-then-s-pad
returns-then-s-pad c = (λ h. absurd (omega arith), λ h. absurd (omega arith))

pub plain-requires : goal.plain-requires
plain-requires c = let p = c.requires in (omega arith, p.1)

pub returns-then-plain : goal.returns-then-plain
returns-then-plain c = (λ h. c.plain.ensures c.if-plain.true 0, λ h. c.no_live_outs-next.ensures h)

pub returns : goal.returns
returns c = (λ h. absurd (omega arith), λ h. absurd (omega arith))
