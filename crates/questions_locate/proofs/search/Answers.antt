use mathlib.Core.Path.{ap}
use Rattle.stackmap.specs.Verdict.{verdict}
use Prim.Native.Nat.{◌-◌}
use mathlib.Core.Path.{◌≡◌, sym, ◌∙◌}
use native.Mathlib.Omega.{arith}
use Rattle.stackmap.specs.Section.{is_old}
use Rattle.stackmap.proofs.Steps.{fewer}
use Rattle.stackmap.proofs.OneWalk.{fold_start, fold_on, fold_end, here-ends}
use Rattle.questions.specs.Kept.{no_stretch, picked}
use Rattle.questions.proofs.Kept.{located-none, located-some}
use Rattle.questions.proofs.Asked.{ask_stop, ask-after, ask-whole}
use Rattle.questions_locate.proofs.search.Goals as goal

pub u32_at-constants-requires : goal.u32_at-constants-requires
u32_at-constants-requires c = let w = c.requires.0.inside in omega arith

pub u32_at-count-requires : goal.u32_at-count-requires
u32_at-count-requires c = let w = c.requires.0.inside in omega arith

pub is_old-old-requires : goal.is_old-old-requires
is_old-old-requires c = let w = c.requires.0.inside in omega arith

pub start-turn-requires : goal.start-turn-requires
start-turn-requires c = (c.is_old-old.ensures, c.requires.0)

pub loop-index-init : goal.loop-index-init
loop-index-init c =
    let all : c.u32_at-count.result - 0 ≡ c.u32_at-count.result = omega arith in
    (rw all (fold_start (picked (is_old c.args.s.now) c.args.wanted) no_stretch c.requires.0 c.start-turn.ensures c.requires.1 c.requires.2 c.u32_at-count.ensures), omega arith)

pub owner-t-requires : goal.owner-t-requires
owner-t-requires c =
    let w = c.loop-index.invariant.0.walking in
    let n = w.counted in
    (c.requires.0.inside, w.turning, omega arith)

pub record_at-requires : goal.record_at-requires
record_at-requires c =
    let w = c.loop-index.invariant.0.walking in
    (c.is_old-old.ensures, c.requires.0.inside, (λ z. let m = c.owner-t.ensures.3 z in let k = c.owner-t.ensures.2 in omega arith), w.inside)

pub returns-in-Err : goal.returns-in-Err
returns-in-Err c =
    let constants = c.u32_at-constants.ensures in
    let l = c.loop-index.invariant.0 in
    let o = c.owner-t in (
      (rw c.number.ensures at c.refused.ensures)
          ∙ ask_stop _ _ constants l o.result.next o.result.left o.ensures.0 o.ensures.1
          (sym c.record_at.ensures ∙ ap verdict c.in-Err.is),
      rw c.refused.ensures (omega arith),
    )

pub keep-kept-requires : goal.keep-kept-requires
keep-kept-requires c = (here-ends _ _ _ _ _ _ (sym c.record_at.ensures ∙ ap verdict c.in-Ok.is), c.loop-index.invariant.1)

pub loop-index-preserved : goal.loop-index-preserved
loop-index-preserved c =
    let l = c.loop-index in
    let o = c.owner-t in
    let f = fold_on (picked (is_old c.args.s.now) c.args.wanted) o.result.next o.result.left l.invariant.0 o.ensures.0 o.ensures.1 o.ensures.2 o.ensures.3
    (omega arith) (sym c.record_at.ensures ∙ ap verdict c.in-Ok.is) in
    (rw (c.keep-kept.ensures.0 (c.owner-t.result.next - 1), ← fewer) f, c.keep-kept.ensures.1)

pub returns-then-p-s : goal.returns-then-p-s
returns-then-p-s c = (c.refused-then-p-s.ensures ∙ ask-after _ _ c.u32_at-constants.ensures c.loop-index.invariant.0 (omega arith) c.if-p-s.true, rw c.refused-then-p-s.ensures (omega arith))

pub returns-then-kept-eq0 : goal.returns-then-kept-eq0
returns-then-kept-eq0 c =
    let none : c.u32_at-count.result - c.loop-index.index ≡ 0 = omega arith in
    let f = c.loop-index.invariant.0 in (
      c.refused-then-kept-eq0.ensures
          ∙ sym (located-none c.args.wanted c.args.s.now c.loop-index.kept (fold_end (picked (is_old c.args.s.now) c.args.wanted) f none) c.if-kept-eq0.true)
          ∙ ask-whole _ _ c.u32_at-constants.ensures f none c.if-p-s.false,
      rw c.refused-then-kept-eq0.ensures (omega arith),
    )

pub returns : goal.returns
returns c =
    let none : c.u32_at-count.result - c.loop-index.index ≡ 0 = omega arith in
    let f = c.loop-index.invariant.0 in (
      sym (located-some c.args.wanted c.args.s.now c.loop-index.kept (fold_end (picked (is_old c.args.s.now) c.args.wanted) f none) c.if-kept-eq0.false)
          ∙ ask-whole _ _ c.u32_at-constants.ensures f none c.if-p-s.false,
      let i = c.loop-index.invariant.1 in omega arith,
    )
