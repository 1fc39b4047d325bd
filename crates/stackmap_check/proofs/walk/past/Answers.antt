use Rattle.std.proofs.Common.{◌≡◌, sym, ap, ◌∙◌, arith, eqb-true}
use Rattle.stackmap.specs.Verdict.{Valid}
use Rattle.stackmap.proofs.Within.{here-inside}
use Rattle.stackmap_check.proofs.Pass.{shifted}
use Rattle.stackmap_check.proofs.walk.past.Goals as goal

pub unless-requires : goal.unless-requires
unless-requires c =
    let v = c.plain-end.ensures.1 c.args.constants (omega arith) in
    here-inside _ _ _ _ _ _ c.requires (shifted _ _ _ v.0 v.1)

pub returns-then-end-gt1 : goal.returns-then-end-gt1
returns-then-end-gt1 c =
    λ h.
    let v = c.plain-end.ensures.1 c.args.constants (omega arith) in
    let w = c.unless.ensures h in
    (shifted _ _ _ v.0 v.1 ∙ ap Valid (sym w.0), w.1)

pub other-next-requires : goal.other-next-requires
other-next-requires c = (c.requires, λ q. let e : c.plain-end.result ≡ 1 = eqb-true _ _ q in c.plain-end.ensures.0 c.args.constants (omega arith))

pub unless-requires-then-next-gt0 : goal.unless-requires-then-next-gt0
unless-requires-then-next-gt0 c =
    let v = c.other-next.ensures (omega arith) in
    here-inside _ _ _ _ _ _ c.requires (shifted _ _ _ v.0 v.1)

pub returns-then-next-gt0 : goal.returns-then-next-gt0
returns-then-next-gt0 c =
    λ h.
    let v = c.other-next.ensures (omega arith) in
    let w = c.unless-then-next-gt0.ensures h in
    (shifted _ _ _ v.0 v.1 ∙ ap Valid (sym w.0), w.1)

pub returns : goal.returns
returns c = λ h. absurd (omega arith)
