use Rattle.std.proofs.Common.{rules, arith, refl, ◌∙◌, ◌+◌, ◌*◌}
use Rattle.std.proofs.lemmas.Iterator.{YieldsList-from_range}
use Rattle.std.proofs.lemmas.Iterator.Search.{all_from_yields_List}
use Rattle.flat.specs.Places.{record_inside, along}
use Rattle.flat_along.proofs.Below.{every_number}
use Rattle.flat_along.proofs.records_inside.Goals as goal

pub returns : goal.returns
unfolding along
returns c =
    all_from_yields_List (λ k. record_inside c.args.s.now c.args.locations c.args.outs (c.args.records + 22 * k)) _ _ _ c.all.ensures.ran
    (YieldsList-from_range 0 c.args.n c.args.n refl (omega arith)) (λ x b q k. search rules) ∙ every_number _ _ _
