use Rattle.std.proofs.Common.{arith, rules, refl, ◌∙◌, ◌+◌, ◌*◌}
use Rattle.std.proofs.lemmas.Iterator.{YieldsList-from_range}
use Rattle.std.proofs.lemmas.Iterator.Search.{all_from_yields_List}
use Rattle.flat.specs.Places.{frame_inside, along}
use Rattle.flat_along.proofs.Below.{every_number}
use Rattle.flat_along.proofs.frames_inside.Goals as goal

pub returns : goal.returns
unfolding along
returns c =
    all_from_yields_List (λ k. frame_inside c.args.s.now c.args.records (c.args.frames + 28 * k)) _ _ _ c.all.ensures.ran
    (YieldsList-from_range 0 c.args.n c.args.n refl (omega arith)) (λ x b q k. search rules) ∙ every_number _ _ _
