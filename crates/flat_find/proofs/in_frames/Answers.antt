use mathlib.Core.Path.{◌∙◌}
use native.Mathlib.Omega.{arith}
use Rattle.flat_check.proofs.Chain.{accepted-told}
use Rattle.flat_match.proofs.Lookup.{go_start, go_on, go_hit, go_end, range_fits, hit-is}
use Rattle.flat_find.proofs.in_frames.Goals as goal

pub loop-i-init : goal.loop-i-init
loop-i-init c = go_start _ _

pub in_frame-hit-requires : goal.in_frame-hit-requires
in_frame-hit-requires c =
    let t = accepted-told _ c.requires.0 in
    let f = range_fits _ _ _ _ _
    c.offset-frames.ensures.0 (c.from-k.ensures ∙ c.u16_at.ensures) (c.from-number.ensures ∙ c.u16_at-in-loop-i.ensures) t (omega (arith, c.num_frames-n.ensures))
    in (t.least, f.0, f.1, omega arith, omega arith, c.requires.2)

pub returns-then-hit-eq0 : goal.returns-then-hit-eq0
returns-then-hit-eq0 c =
    go_hit _ _ _ c.loop-i.invariant (omega (arith, c.num_frames-n.ensures)) _ (hit-is _ _ _ _ _
    c.offset-frames.ensures.0 (c.from-k.ensures ∙ c.u16_at.ensures) (c.from-number.ensures ∙ c.u16_at-in-loop-i.ensures) _ _ c.in_frame-hit.ensures) c.if-hit-eq0.true

pub loop-i-preserved : goal.loop-i-preserved
loop-i-preserved c =
    go_on _ _ _ c.loop-i.invariant (omega (arith, c.num_frames-n.ensures)) _ (hit-is _ _ _ _ _
    c.offset-frames.ensures.0 (c.from-k.ensures ∙ c.u16_at.ensures) (c.from-number.ensures ∙ c.u16_at-in-loop-i.ensures) _ _ c.in_frame-hit.ensures) c.if-hit-eq0.false

pub returns : goal.returns
returns c = go_end _ _ _ _ c.loop-i.invariant (omega (arith, c.num_frames-n.ensures)) c.not_found.ensures
