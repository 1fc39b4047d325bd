use native.Mathlib.Omega.{arith}
use Rattle.stackmap_quick.proofs.Looks.{finish}
use Rattle.stackmap_quick.proofs.quick.other.Goals as goal

pub returns-then-s-at-lt24 : goal.returns-then-s-at-lt24
returns-then-s-at-lt24 c = λ h. absurd (omega arith)

pub returns-then-s-pad : goal.returns-then-s-pad
returns-then-s-pad c = λ h. absurd (omega arith)

pub begun-requires : goal.begun-requires
begun-requires c = let e = c.locations_end-pad.ensures.0 in (omega arith, c.u16_at-count.ensures, c.requires.1)

pub ending-requires : goal.ending-requires
ending-requires c = let q = c.locations_padding-padding.ensures.1 in let e = c.locations_end-pad.ensures.0 in (omega arith, q, omega arith)

pub returns-then-begun : goal.returns-then-begun
returns-then-begun c =
    λ h.
    let a = c.args in
    finish a.old a.s.now a.constants a.address a.at c.u16_at-count.result _ c.u16_at-count.ensures (c.begun.ensures c.if-begun.true)
    (rw (c.locations_end-pad.ensures.0, c.locations_padding-padding.ensures.0) at (c.ending.ensures h))

pub returns : goal.returns
returns c = λ h. absurd (omega arith)
