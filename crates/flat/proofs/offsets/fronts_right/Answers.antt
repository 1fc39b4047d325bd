use mathlib.Core.Path.{sym, ◌∙◌}
use mathlib.Core.Bool.{true≢false}
use native.Mathlib.Omega.{arith}
use borrow.Author.Tests.{eqb-true, eqb-false, leb-true}
use Rattle.flat.proofs.Arrays.{right_not, right_outside}
use Rattle.flat.proofs.offsets.fronts_right.Goals as goal
use Rattle.flat.proofs.offsets.fronts_right.Goals.{then-registers-s, else-registers-s, then-constants-after, else-constants-after}

pub returns-then-frames-after : goal.returns-then-frames-after
returns-then-frames-after c = (
  (λ t. elim c.if-constants-after.branch [
    | then-constants-after w ↦ elim c.if-registers-s.branch [
      | then-registers-s v ↦
          let d = eqb-true _ _ (sym v.value-is ∙ w.if-constants-after.true) in
          let e = eqb-true _ _ (sym w.value-is ∙ c.if-frames-after.true) in
          let f = eqb-true _ _ t in
          record {
            constants = omega (arith, c.offset-constants.ensures.0, v.after.ensures);
            frames = omega (arith, c.offset-frames.ensures.0, c.offset-constants.ensures.0, w.after-then-constants-after.ensures, w.num_constants.ensures);
            registers = omega (arith, c.offset-registers.ensures.0, c.offset-frames.ensures.0, c.after-then-frames-after.ensures, c.num_frames.ensures);
            inside = omega (arith, c.offset-registers.ensures.0, v.if-registers-s.true);
          }
      | else-registers-s v ↦ absurd (let e = leb-true _ _ (sym v.value-is ∙ w.if-constants-after.true) in omega (arith, v.if-registers-s.false))
    ]
    | else-constants-after w ↦ absurd (true≢false (sym c.if-frames-after.true ∙ w.value-is ∙ w.if-constants-after.false))
  ]),
  (λ t. right_not _ (λ r. let e = eqb-false _ _ t in omega (arith, r.registers, c.offset-registers.ensures.0, c.offset-frames.ensures.0, c.after-then-frames-after.ensures, c.num_frames.ensures))),
)

pub returns-else-frames-after : goal.returns-else-frames-after
returns-else-frames-after c = (
  (λ t. absurd (true≢false (sym t ∙ c.if-frames-after.false))),
  (λ t. elim c.if-constants-after.branch [
    | then-constants-after w ↦ right_not _ (λ r. let e = eqb-false _ _ (sym w.value-is ∙ t) in omega (arith, r.frames, w.after-then-constants-after.ensures, w.num_constants.ensures))
    | else-constants-after w ↦ elim c.if-registers-s.branch [
      | then-registers-s v ↦ right_not _ (λ r. let e = eqb-false _ _ (sym v.value-is ∙ w.if-constants-after.false) in omega (arith, r.constants, v.after.ensures))
      | else-registers-s v ↦ right_outside _ (λ h. omega (arith, v.if-registers-s.false))
    ]
  ]),
)
