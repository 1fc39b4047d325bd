use mathlib.Core.Path.{sym, ◌∙◌}
use mathlib.Core.Bool.{true≢false}
use native.Mathlib.Omega.{arith}
use borrow.Author.Tests.{eqb-true, eqb-false}
use Rattle.flat.proofs.Arrays.{right_not, right-last}
use Rattle.flat.proofs.offsets.offsets_right.Goals as goal
use Rattle.flat.proofs.offsets.offsets_right.Goals.{then-records-after, else-records-after, then-locations-after, else-locations-after}

pub returns-then-live_outs-after : goal.returns-then-live_outs-after
returns-then-live_outs-after c =
    elim c.if-locations-after.branch [
      | then-locations-after w ↦ elim c.if-records-after.branch [
        | then-records-after v ↦
            let f = c.requires.2 in
            right-last _ _ f.constants f.frames f.registers
            (omega (arith, c.offset-records.ensures.0, c.offset-registers.ensures.0, v.if-records-after.true, c.after.ensures, c.requires.3))
            (let e = eqb-true _ _ (sym v.value-is ∙ w.if-locations-after.true) in
            omega (arith, c.offset-locations.ensures.0, c.offset-records.ensures.0, v.after-then-records-after.ensures, v.num_records.ensures))
            (let e = eqb-true _ _ (sym w.value-is ∙ c.if-live_outs-after.true) in
            omega (arith, c.offset-live_outs.ensures.0, c.offset-locations.ensures.0, w.after-then-locations-after.ensures, w.num_locations.ensures))
            (omega (arith, c.after-then-live_outs-after.ensures, c.num_live_outs.ensures, c.offset-live_outs.ensures.0))
        | else-records-after v ↦ absurd (v.if-records-after.false (eqb-true _ _ (sym v.value-is ∙ w.if-locations-after.true)))
      ]
      | else-locations-after w ↦ absurd (true≢false (sym c.if-live_outs-after.true ∙ w.value-is ∙ w.if-locations-after.false))
    ]

pub returns-else-live_outs-after : goal.returns-else-live_outs-after
returns-else-live_outs-after c =
    rw c.if-live_outs-after.false (elim c.if-locations-after.branch [
      | then-locations-after w ↦ right_not _ (λ r. let e = eqb-false _ _ (sym w.value-is ∙ c.if-live_outs-after.false) in omega (arith, r.live-outs, w.after-then-locations-after.ensures, w.num_locations.ensures))
      | else-locations-after w ↦ elim c.if-records-after.branch [
        | then-records-after v ↦ right_not _ (λ r. let e = eqb-false _ _ (sym v.value-is ∙ w.if-locations-after.false) in omega (arith, r.locations, v.after-then-records-after.ensures, v.num_records.ensures))
        | else-records-after v ↦ right_not _ (λ r. omega (arith, r.records, v.if-records-after.false))
      ]
    ])
