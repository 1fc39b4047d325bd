use Rattle.std.proofs.Common.{inl, inr}
use mathlib.Core.Path.{refl, sym, ap, ◌∙◌}
use native.Mathlib.Omega.{arith}
use Rattle.wire.specs.Word.{Bytes}
use Rattle.stackmap.specs.Verdict.{verdict}
use Rattle.stackmap.proofs.Passed.{passed}
use Rattle.thread_marks.proofs.Marks.{counted-more}
use Rattle.thread_search.proofs.Walked.{never_valid}
use Rattle.linked_search.proofs.Cuts.{size_stop}
use Rattle.linked_search.proofs.Finds.{too_short, too_long}
use Rattle.linked_search.proofs.Sweeps.{sweep_start, sweep_on, sweep_stop, sweep_old, sweep_new, sweep_found, sweep_standing, next-end}
use Rattle.linked_search.proofs.find_all.Goals as goal

pub returns-then-size-lt-SIZE_LEAST : goal.returns-then-size-lt-SIZE_LEAST
returns-then-size-lt-SIZE_LEAST c =
    elim c.then-size-lt-SIZE_LEAST.either [
      | inl h ↦ (size_stop _ (too_short _ (omega arith)), λ e z. never_valid z)
      | inr h ↦ (size_stop _ (too_long _ (omega arith)), λ e z. never_valid z)
    ]

pub loop-at-init : goal.loop-at-init
loop-at-init c = sweep_start _ _ _ _ _ _ (omega arith) c.requires.2 c.requires.3 refl

pub scan_at-requires : goal.scan_at-requires
scan_at-requires c =
    let w = c.loop-at.invariant in
    (c.requires.0, c.requires.1, counted-more _ _ _ (omega arith) w.counted, w.cutting.inside, omega arith)

pub returns-in_err-end : goal.returns-in_err-end
returns-in_err-end c =
    rw (passed _ _ c.from_residual.ensures.1)
    (sweep_stop c.loop-at.invariant (verdict c.scan_at.result) _ _ (omega arith) c.scan_at.ensures.0 (ap verdict c.in_err-end.was), λ e z. never_valid z)

pub first_old-old-requires : goal.first_old-old-requires
first_old-old-requires c =
    let e = next-end _ _ _ c.loop-at.invariant.cutting.inside (sym c.scan_at.ensures.0 ∙ ap verdict c.in_ok-end.was) in
    omega (arith, e.0, e.1)

pub close_map-n-requires : goal.close_map-n-requires
close_map-n-requires c =
    let w = c.loop-at.invariant in
    let e = next-end _ _ _ w.cutting.inside (sym c.scan_at.ensures.0 ∙ ap verdict c.in_ok-end.was) in
    (c.requires.0, w.room, w.sorted, omega (arith, e.0, w.here))

pub loop-at-smaller : goal.loop-at-smaller
loop-at-smaller c =
    let w = c.loop-at.invariant in
    let e = next-end _ _ _ w.cutting.inside (sym c.scan_at.ensures.0 ∙ ap verdict c.in_ok-end.was) in
    omega (arith, e.0, e.1)

pub loop-at-preserved : goal.loop-at-preserved
loop-at-preserved c =
    let w = c.loop-at.invariant in
    let a = c.scan_at in
    let m = c.close_map-n.ensures in
    let b : Bytes c.args.section.now = record { below = λ j. omega (arith, c.shared_slice_known-1.given j) } in
    sweep_on w _ _ _ _ _ _ _ (verdict a.result) (omega arith) (omega arith) b a.ensures.0 (ap verdict c.in_ok-end.was) a.ensures.1 c.first_old-old.ensures m.0 m.1 m.2 m.3 m.4 m.5 m.6

pub returns-then-old-size : goal.returns-then-old-size
returns-then-old-size c = (sweep_old c.loop-at.invariant (omega arith) c.if-old-size.true, λ e z. never_valid z)

pub returns : goal.returns
returns c =
    let w = c.loop-at.invariant in
    (sweep_new w (omega arith) c.if-old-size.false, λ e z. (sweep_found w (omega arith), sweep_standing w (omega arith) c.if-old-size.false))
