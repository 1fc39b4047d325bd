use mathlib.Core.Path.{◌≡◌, sym, ◌∙◌}
use native.Mathlib.Omega.{arith}
use Rattle.thread.proofs.StretchesApart.{apart_none}
use Rattle.thread_extents.proofs.Earlier.{keeping_start, keeping_stop, keeping_empty, keeping_kept, keeping_end}
use Rattle.thread_extents.proofs.first_of.Goals as goal
use Rattle.thread_extents.proofs.first_of.Goals.{then-start-end, else-start-end}

pub loop-k-init : goal.loop-k-init
loop-k-init g c = (apart_none _ _, omega arith, λ e t p. keeping_start e t c.args.count _ _)

pub returns-then-shares : goal.returns-then-shares
returns-then-shares g c =
    let i = c.loop-k.invariant in
    let x = c.extent-start in (
      omega arith,
      λ e t p.
          let is = p.each _ _ c.loop-k-test.true x.ensures in
          keeping_stop e t c.args.count (i.2 e t p) c.loop-k-test.true x.result.start x.result.end is.0 is.1 (sym c.shares.ensures ∙ c.if-shares.true),
    )

pub loop-k-preserved : goal.loop-k-preserved
loop-k-preserved g c =
    let i = c.loop-k.invariant in
    let x = c.extent-start in
    let no = sym c.shares.ensures ∙ c.if-shares.false in
    elim c.if-start-end.branch [
      | then-start-end w ↦ rw (w.starts-is, w.ends-is, w.kept-is) (
        w.keep.ensures.0,
        omega (arith, i.1),
        λ e t p.
            let is = p.each _ _ c.loop-k-test.true x.ensures in
            keeping_kept e t c.args.count (i.2 e t p) c.loop-k-test.true x.result.start x.result.end is.0 is.1 _ _ no w.keep.ensures.0 w.keep.ensures.1,
      )
      | else-start-end w ↦ rw (w.starts-is, w.ends-is, w.kept-is) (
        i.0,
        omega (arith, i.1),
        λ e t p.
            let is = p.each _ _ c.loop-k-test.true x.ensures in
            keeping_empty e t c.args.count (i.2 e t p) c.loop-k-test.true x.result.start x.result.end is.0 is.1 no w.if-start-end.false,
      )
    ]

pub returns : goal.returns
returns g c =
    let z : c.loop-k.k ≡ c.args.count = omega arith in
    (omega arith, λ e t p. rw z at (keeping_end e t c.args.count (c.loop-k.invariant.2 e t p) (omega arith)))
