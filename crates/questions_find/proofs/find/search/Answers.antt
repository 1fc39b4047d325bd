use mathlib.Core.Path.{ap}
use Rattle.stackmap.specs.Verdict.{verdict}
use Prim.Native.Nat.{◌+◌, ◌-◌}
use mathlib.Core.Path.{◌≡◌, sym, ◌∙◌}
use native.Mathlib.Omega.{arith}
use Rattle.stackmap.proofs.OneWalk.{fold_start, fold_on}
use Rattle.stackmap.proofs.Within.{here-inside}
use Rattle.questions.specs.Kept.{no_hits, noted}
use Rattle.questions_find.proofs.Ends.{noted-first, kept_on, all_right, one_wrong}
use Rattle.questions_find.proofs.find.search.Goals as goal

pub u32_at-constants-requires : goal.u32_at-constants-requires
u32_at-constants-requires c = let w = c.requires.0.inside in omega arith

pub u32_at-count-requires : goal.u32_at-count-requires
u32_at-count-requires c = let w = c.requires.0.inside in omega arith

pub is_old-old-requires : goal.is_old-old-requires
is_old-old-requires c = let w = c.requires.0.inside in omega arith

pub start-turn-requires : goal.start-turn-requires
start-turn-requires c = (c.is_old-old.ensures, c.requires.0)

pub loop-remaining-init : goal.loop-remaining-init
loop-remaining-init c =
    let n = c.u32_at-count in
    let z : n.result - n.result ≡ 0 = omega arith in
    (rw z (fold_start (noted c.args.address) no_hits c.requires.0 c.start-turn.ensures c.requires.1 c.requires.2 n.ensures), omega arith, omega arith, omega arith, omega arith)

pub pass-stop-requires : goal.pass-stop-requires
pass-stop-requires c = (c.is_old-old.ensures, c.requires.0.inside, c.loop-remaining.invariant.0.walking)

pub returns-then-ahead-eq0 : goal.returns-then-ahead-eq0
returns-then-ahead-eq0 c =
    let l = c.loop-remaining in
    let k = kept_on _ _ c.pass-stop.ensures l.invariant.2 l.invariant.0 in
    let a = all_right c.args.address c.u32_at-constants.ensures k c.if-ahead-eq0.true in
    (a, record { few = omega (arith, l.invariant.1, l.invariant.3); inside = l.invariant.4 })

pub overflow_sub-next : goal.overflow_sub-next
overflow_sub-next c = let b = (c.pass-stop.ensures.owned (omega arith)).begun in omega arith

pub record_at-requires : goal.record_at-requires
record_at-requires c =
    let l = c.loop-remaining in
    let t = c.pass-stop.ensures in
    let o = t.owned (omega arith) in
    let i = c.requires.0.inside in
    (c.is_old-old.ensures, i, (λ z. let m = o.most z in let b = o.begun in omega arith), (kept_on _ _ t l.invariant.2 l.invariant.0).walking.inside)

pub returns-in-Err : goal.returns-in-Err
returns-in-Err c =
    let l = c.loop-remaining in
    let s = c.pass-stop in
    let t = s.ensures in
    let k = kept_on _ _ t l.invariant.2 l.invariant.0 in
    let n = c.u32_at-constants.ensures in
    let v = sym c.record_at.ensures ∙ ap verdict c.in-Err.is in
    ((rw c.number.ensures at c.stopped.ensures) ∙ one_wrong _ n k s.result.next s.result.left t.same (t.owned (omega arith)).some v, rw c.stopped.ensures (record { few = omega arith; inside = omega arith }))

pub overflow_sub-next-in-Ok : goal.overflow_sub-next-in-Ok
overflow_sub-next-in-Ok c = let b = (c.pass-stop.ensures.owned (omega arith)).begun in omega arith

pub owner_address-start-requires : goal.owner_address-start-requires
owner_address-start-requires c =
    let o = c.pass-stop.ensures.owned (omega arith) in
    let i = c.requires.0.inside in
    (c.is_old-old.ensures, i, λ z. let m = o.most z in let b = o.begun in omega arith)

pub overflow_sub-index : goal.overflow_sub-index
overflow_sub-index c = let n = c.pass-stop.ensures.counted in let m = c.loop-remaining.invariant.2 in omega arith

pub overflow_sub-next-in-Ok-2 : goal.overflow_sub-next-in-Ok-2
overflow_sub-next-in-Ok-2 c = let b = (c.pass-stop.ensures.owned (omega arith)).begun in omega arith

pub note-hits-requires : goal.note-hits-requires
note-hits-requires c =
    let l = c.loop-remaining in
    let t = c.pass-stop.ensures in
    let n = t.counted in
    let w = (kept_on _ _ t l.invariant.2 l.invariant.0).walking in
    let i = here-inside _ _ _ _ _ _ w.inside (sym c.record_at.ensures ∙ ap verdict c.in-Ok.is) in
    (c.owner_address-start.ensures, i, omega (arith, l.invariant.1, l.invariant.2), omega (arith, l.invariant.3))

pub overflow_sub-turn : goal.overflow_sub-turn
overflow_sub-turn c = let b = (c.pass-stop.ensures.owned (omega arith)).some in omega arith

pub loop-remaining-smaller : goal.loop-remaining-smaller
loop-remaining-smaller c = let n = c.pass-stop.ensures.counted in omega arith

pub loop-remaining-preserved : goal.loop-remaining-preserved
loop-remaining-preserved c =
    let a = c.args.address in
    let l = c.loop-remaining in
    let s = c.pass-stop in
    let t = s.ensures in
    let n = t.counted in
    let o = t.owned (omega arith) in
    let all = c.u32_at-count.result in
    let v = sym c.record_at.ensures ∙ ap verdict c.in-Ok.is in
    let k = kept_on a all t l.invariant.2 l.invariant.0 in
    let f = fold_on (noted a) s.result.next s.result.left k t.same o.some o.begun o.most (omega arith) v in
    let z : all - (s.result.remaining - 1) ≡ all - s.result.remaining + 1 = omega (arith, l.invariant.2) in
    (rw (c.note-hits.ensures.0, z) f, omega (arith, c.note-hits.ensures.1, z), omega (arith, l.invariant.2), l.invariant.3, rw c.note-hits.ensures.0 (noted-first a _ _ _ k.walking.inside l.invariant.4))

pub returns : goal.returns
returns c =
    let n = c.u32_at-constants.ensures in
    let l = c.loop-remaining in
    (all_right c.args.address n l.invariant.0 (omega arith), record { few = omega (arith, l.invariant.1, l.invariant.3); inside = l.invariant.4 })
