use mathlib.Core.Path.{sym, ◌∙◌}
use native.Mathlib.Omega.{arith}
use Rattle.relocate.proofs.Records.{location_inside}
use Rattle.relocate_pairs.proofs.Forms.{null-said, place-said}
use Rattle.relocate_pairs.proofs.Looks.{look-null, look-run, look-base, look-derived}
use Rattle.relocate_pairs.proofs.fill.look.Goals as goal

pub overflow_add-j : goal.overflow_add-j
overflow_add-j c = omega (arith, location_inside c.args.s.now c.args.at c.requires.0 c.args.j (omega arith))

pub returns-then-null_said : goal.returns-then-null_said
returns-then-null_said c =
    let q =
    look-null _ _ _ _ _
    (sym (null-said _ _ _ _ c.location-b.ensures c.location-d.ensures) ∙ sym c.null_said.ensures ∙ c.if-null_said.true) in
    record { all_inside = q.0; looked = q.1 }

pub returns-in_err-base : goal.returns-in_err-base
returns-in_err-base c =
    let outside =
    look-base _ _ _ _ _
    (sym (null-said _ _ _ _ c.location-b.ensures c.location-d.ensures) ∙ sym c.null_said.ensures ∙ c.if-null_said.false)
    (c.in_err-base.ensures ∙ place-said _ _ _ c.location-b.ensures _ _ _) in
    rw c.from_residual.ensures (record { all_inside = outside; looked = tt })

pub returns-in_err-derived : goal.returns-in_err-derived
returns-in_err-derived c =
    let outside =
    look-derived _ _ _ _ _
    (sym (null-said _ _ _ _ c.location-b.ensures c.location-d.ensures) ∙ sym c.null_said.ensures ∙ c.if-null_said.false)
    _
    (c.in_ok-base.ensures ∙ place-said _ _ _ c.location-b.ensures _ _ _)
    (c.in_err-derived.ensures ∙ place-said _ _ _ c.location-d.ensures _ _ _) in
    rw c.from_residual-in_err-derived.ensures (record { all_inside = outside; looked = tt })

pub returns : goal.returns
returns c =
    let q =
    look-run _ _ _ _ _
    (sym (null-said _ _ _ _ c.location-b.ensures c.location-d.ensures) ∙ sym c.null_said.ensures ∙ c.if-null_said.false)
    c.requires.3 c.requires.2 _ _ _
    (c.in_ok-base.ensures ∙ place-said _ _ _ c.location-b.ensures _ _ _)
    (c.in_ok-derived.ensures ∙ place-said _ _ _ c.location-d.ensures _ _ _)
    (c.pointers_in.ensures.0 ∙ rw c.location-b.ensures) in
    record { all_inside = q.0; looked = q.1 }
