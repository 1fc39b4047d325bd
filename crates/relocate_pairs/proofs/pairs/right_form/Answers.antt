use mathlib.Core.Path.{◌∙◌}
use native.Mathlib.Omega.{arith}
use Rattle.relocate.proofs.Records.{location_inside}
use Rattle.relocate_pairs.proofs.Forms.{form_said_lem}
use Rattle.relocate_pairs.proofs.pairs.right_form.Goals as goal

pub overflow_add-j : goal.overflow_add-j
overflow_add-j c = omega (arith, location_inside c.args.s.now c.args.at c.requires.0 c.args.j (omega arith))

pub returns : goal.returns
returns c = c.form_said.ensures ∙ form_said_lem _ _ _ _ c.location-base.ensures c.location-derived.ensures _ _
