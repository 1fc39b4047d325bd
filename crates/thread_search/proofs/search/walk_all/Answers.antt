use Rattle.stackmap.proofs.Passed.{passed}
use mathlib.Core.Path.{ap}
use Rattle.stackmap.specs.Verdict.{verdict}
use Prim.Native.Nat.{◌+◌, ◌-◌}
use mathlib.Core.Path.{◌≡◌, sym, ◌∙◌}
use native.Mathlib.Omega.{arith}
use Rattle.wire.specs.Word.{Bytes}
use Rattle.stackmap.proofs.Turns.{walk_stop, walk_end}
use Rattle.stackmap.proofs.OneWalk.{fold_start, fold_on}
use Rattle.stackmap.proofs.Within.{here-inside}
use Rattle.sorted_numbers.proofs.Gaps.{between_start}
use Rattle.thread_marks.specs.From.{noted_from}
use Rattle.thread_marks.proofs.Marks.{counted-grown, grown-none, grown-more, grown_on}
use Rattle.thread_search.proofs.Walked.{address-fits, all_are, never_valid}
use Rattle.thread_search.proofs.Passing.{found, found-holds, stop_kept, all_noted}
use Rattle.thread_search.proofs.search.walk_all.Goals as goal

pub u32_at-constants-requires : goal.u32_at-constants-requires
u32_at-constants-requires c = let w = c.requires.0.inside in omega arith

pub u32_at-total-requires : goal.u32_at-total-requires
u32_at-total-requires c = let w = c.requires.0.inside in omega arith

pub is_old-old-requires : goal.is_old-old-requires
is_old-old-requires c = let w = c.requires.0.inside in omega arith

pub start-turn-requires : goal.start-turn-requires
start-turn-requires c = (c.is_old-old.ensures, c.requires.0)

pub loop-remaining-init : goal.loop-remaining-init
loop-remaining-init c =
    let n = c.u32_at-total in
    let z : n.result - n.result ≡ 0 = omega arith in (
      rw z (record { kept = found c.args.keys.now c.args.count c.args.hits.now; folding = fold_start (noted_from c.args.base) _ c.requires.0 c.start-turn.ensures c.requires.1 c.requires.2 n.ensures; holding = found-holds c.args.keys.now c.args.count c.args.hits.now c.requires.4 }),
      grown-none _ _,
      omega arith,
      omega arith,
      between_start _ _,
    )

pub between-stop-requires : goal.between-stop-requires
between-stop-requires c = (c.is_old-old.ensures, c.requires.0.inside, c.loop-remaining.invariant.0.folding.walking)

pub returns-then-ahead-eq0 : goal.returns-then-ahead-eq0
returns-then-ahead-eq0 c =
    let l = c.loop-remaining in
    let k = stop_kept l.invariant.4 _ c.between-stop.ensures.0 l.invariant.2 l.invariant.0 in (
      all_are _ _ c.u32_at-constants.ensures _ (walk_end k.folding.walking c.if-ahead-eq0.true),
      record { noted_all = λ e h. all_noted c.requires.4 k c.if-ahead-eq0.true; grown = grown-more _ _ (omega (arith, l.invariant.3)) l.invariant.1 },
    )

pub overflow_sub-next : goal.overflow_sub-next
overflow_sub-next c = let b = (c.between-stop.ensures.0.owned (omega arith)).begun in omega arith

pub verdict-requires : goal.verdict-requires
verdict-requires c =
    let l = c.loop-remaining in
    let t = c.between-stop.ensures in
    let o = t.0.owned (omega arith) in
    let i = c.requires.0.inside in
    (c.is_old-old.ensures, i, (λ z. let m = o.most z in let b = o.begun in omega arith), (stop_kept l.invariant.4 _ t.0 l.invariant.2 l.invariant.0).folding.walking.inside, t.1)

pub returns-in_err-p : goal.returns-in_err-p
returns-in_err-p c =
    let l = c.loop-remaining in
    let s = c.between-stop in
    let t = s.ensures.0 in
    let k = stop_kept l.invariant.4 _ t l.invariant.2 l.invariant.0 in
    let v = sym c.verdict.ensures ∙ ap verdict c.in_err-p.was in
    let n = c.u32_at-constants.ensures in
    let w = walk_stop s.result.next s.result.left k.folding.walking t.same (t.owned (omega arith)).some v in
    rw (passed _ _ c.from_residual.ensures.1)
    (all_are _ _ n _ w, record { noted_all = λ e z. never_valid z; grown = grown-more _ _ (omega (arith, l.invariant.3)) l.invariant.1 })

pub owner_address-start-requires : goal.owner_address-start-requires
owner_address-start-requires c =
    let o = c.between-stop.ensures.0.owned (omega arith) in
    let i = c.requires.0.inside in
    (c.is_old-old.ensures, i, λ z. let m = o.most z in let b = o.begun in omega arith)

pub overflow_sub-index : goal.overflow_sub-index
overflow_sub-index c =
    let n = c.between-stop.ensures.0.counted in
    let m = c.loop-remaining.invariant.2 in
    omega arith

pub mark-gap-requires : goal.mark-gap-requires
mark-gap-requires c =
    let l = c.loop-remaining in
    let t = c.between-stop.ensures.0 in
    let n = t.counted in
    let k = stop_kept l.invariant.4 _ t l.invariant.2 l.invariant.0 in
    let v = sym c.verdict.ensures ∙ ap verdict c.in_ok-p.was in
    let i = here-inside _ _ _ _ _ _ k.folding.walking.inside v in
    let b : Bytes c.args.s.now = record { below = λ j. omega (arith, c.shared_slice_known-1.given j) } in
    (c.owner_address-start.ensures, i, c.requires.6, address-fits c.args.s.now _ _ _ _ _ b v, c.requires.3, c.requires.4, counted-grown _ _ _ (omega (arith, l.invariant.3)) l.invariant.1 c.requires.5, l.invariant.4)

pub overflow_sub-turn : goal.overflow_sub-turn
overflow_sub-turn c = let b = (c.between-stop.ensures.0.owned (omega arith)).some in omega arith

pub loop-remaining-smaller : goal.loop-remaining-smaller
loop-remaining-smaller c = let n = c.between-stop.ensures.0.counted in omega arith

pub loop-remaining-preserved : goal.loop-remaining-preserved
loop-remaining-preserved c =
    let l = c.loop-remaining in
    let s = c.between-stop in
    let t = s.ensures.0 in
    let n = t.counted in
    let o = t.owned (omega arith) in
    let all = c.u32_at-total.result in
    let v = sym c.verdict.ensures ∙ ap verdict c.in_ok-p.was in
    let k = stop_kept l.invariant.4 all t l.invariant.2 l.invariant.0 in
    let f = fold_on (noted_from _) s.result.next s.result.left k.folding t.same o.some o.begun o.most (omega arith) v in
    let z : all - (s.result.remaining - 1) ≡ all - s.result.remaining + 1 = omega (arith, n, l.invariant.2) in (
      rw z (record { kept = _; folding = f; holding = c.mark-gap.ensures.0 k.kept k.holding }),
      rw z (grown_on _ 1 _ (omega (arith, n)) l.invariant.1 c.mark-gap.ensures.1),
      omega (arith, n, l.invariant.2),
      l.invariant.3,
      c.mark-gap.ensures.2,
    )

pub returns : goal.returns
returns c =
    let l = c.loop-remaining in (
      all_are _ _ c.u32_at-constants.ensures _ (walk_end l.invariant.0.folding.walking (omega arith)),
      record { noted_all = λ e h. all_noted c.requires.4 l.invariant.0 (omega arith); grown = grown-more _ _ (omega (arith, l.invariant.3)) l.invariant.1 },
    )
