use native.Mathlib.Omega.{arith}
use Rattle.std.proofs.lemmas.Grind.{common_steps}
use Rattle.relocate.specs.Statepoint.{deopt_count, paired_rest}
use Rattle.relocate.proofs.Records.{count-locations, offset-said}
use Rattle.relocate.proofs.Pairing.{rest_negative}
use Rattle.relocate_pairs.proofs.statepoint.paired_rest.Goals as goal

pub location-d-requires : goal.location-d-requires
location-d-requires c = (c.requires.0, let h = c.requires.1 in let n = c.requires.2 in omega (arith, count-locations c.args.s.now c.args.at))

pub returns-then-deopt-ge-NEGATIVE_FROM : goal.returns-then-deopt-ge-NEGATIVE_FROM
unfolding deopt_count
returns-then-deopt-ge-NEGATIVE_FROM c = rest_negative _ _ (offset-said _ _ _ c.location-d.ensures) c.if-deopt-ge-NEGATIVE_FROM.true

pub returns-then-count-start-eq0 : goal.returns-then-count-start-eq0
unfolding paired_rest deopt_count
returns-then-count-start-eq0 c = grind (arith, common_steps, offset-said _ _ _ c.location-d.ensures, c.requires.2, c.requires.3)

pub returns-else-count-start-eq0 : goal.returns-else-count-start-eq0
unfolding paired_rest deopt_count
returns-else-count-start-eq0 c = grind (arith, common_steps, offset-said _ _ _ c.location-d.ensures, c.requires.2, c.requires.3)
