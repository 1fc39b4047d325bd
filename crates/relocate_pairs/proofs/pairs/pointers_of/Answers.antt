use mathlib.Core.Path.{refl, sym, ◌∙◌}
use native.Mathlib.Omega.{arith}
use Rattle.relocate.specs.Code.{count_of}
use Rattle.relocate.proofs.Records.{location_inside}
use Rattle.relocate_pairs.proofs.Forms.{null-said}
use Rattle.relocate_pairs.proofs.pairs.pointers_of.Goals as goal

pub overflow_add-j : goal.overflow_add-j
overflow_add-j c = omega (arith, location_inside c.args.s.now c.args.at c.requires.0 c.args.j (omega arith))

pub returns-then-null_said : goal.returns-then-null_said
unfolding count_of
returns-then-null_said c =
    let e = sym (null-said _ _ _ _ c.location-base.ensures c.location-derived.ensures) ∙ sym c.null_said.ensures ∙ c.if-null_said.true in
    rw e (refl, omega arith)

pub returns : goal.returns
unfolding count_of
returns c =
    let e = sym (null-said _ _ _ _ c.location-base.ensures c.location-derived.ensures) ∙ sym c.null_said.ensures ∙ c.if-null_said.false in
    rw e (c.pointers_in.ensures.0 ∙ rw c.location-base.ensures, c.pointers_in.ensures.1)
