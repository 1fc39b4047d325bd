use Prim.Native.Nat.{◌^◌, ◌<◌}
use mathlib.Core.Path.{sym, ap, ◌∙◌}
use native.Mathlib.Omega.{arith}
use Rattle.stackmap.specs.Section.{num_records}
use Rattle.stackmap.specs.Verdict.{verdict}
use Rattle.stackmap.proofs.Verdicts.{chain-rest}
use Rattle.stackmap.proofs.Within.{begin_held, section_parts}
use Rattle.questions.specs.Kept.{searched}
use Rattle.questions.proofs.Asked.{ask-refused, ask-begun}
use Rattle.index_follow.specs.Seen.{Following, Began}
use Rattle.index_check.proofs.Laws.{refused_invalid, told}
use Rattle.index_check.proofs.check.Goals as goal

pub u32_at-n-requires : goal.u32_at-n-requires
u32_at-n-requires c =
    let t = begin_held _ _ (sym c.begin.ensures ∙ ap verdict c.in-Ok.is) in
    let i = t.inside in omega arith

pub walk_both-requires : goal.walk_both-requires
walk_both-requires c =
    let t = begin_held _ _ (sym c.begin.ensures ∙ ap verdict c.in-Ok.is) in
    (t.walkable, t.begins, let b = t.begins in let i = t.inside in omega arith, rw c.u32_at-n.ensures at c.first_place-place.ensures.0)

pub returns-in-Err : goal.returns-in-Err
unfolding searched
returns-in-Err c =
    let v = sym c.begin.ensures ∙ ap verdict c.in-Err.is in
    ((rw c.number.ensures at c.refused.ensures) ∙ sym (ask-refused _ _ _ _ _ v), λ h o. absurd (refused_invalid _ _ (sym (ask-refused (λ n p. 1) 0 _ _ _ v)) h))

pub returns-in-Ok : goal.returns-in-Ok
unfolding searched
returns-in-Ok c =
    let a = c.args in
    let v = sym c.begin.ensures ∙ ap verdict c.in-Ok.is in
    let t = begin_held _ _ v in
    let e = c.u32_at-n.ensures in
    let f : Following a.list.now (num_records a.s.now) c.first_place-place.result = rw e at c.first_place-place.ensures.0 in
    let b : Began a.list.now (num_records a.s.now) c.first_place-place.result = rw e at c.first_place-place.ensures.1 in
    let m : num_records a.s.now < 2 ^ 32 = omega arith in
    (c.walk_both.ensures.0 ∙ sym (ask-begun _ _ _ _ v), λ h o. c.walk_both.ensures.1 (chain-rest _ _ _ (sym (section_parts a.s.now) ∙ h)) ∙ told a.s.now a.list.now c.first_place-place.result t.walkable m f b)
