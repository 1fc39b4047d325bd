use Rattle.std.proofs.Common.{rules, refl, ◌∙◌, ◌+◌, ◌*◌, sym}
use Rattle.std.proofs.lemmas.Iterator.{YieldsList-from_range}
use Rattle.std.proofs.lemmas.Iterator.Search.{all_from_yields_List}
use lib.Dec.{ltb}
use lib.ListN.{get_or}
use Rattle.flat.specs.Places.{along}
use Rattle.flat_along.proofs.Below.{every_number}
use Rattle.flat_along.proofs.each_below.Goals as goal

pub returns : goal.returns
unfolding along
returns c =
    all_from_yields_List (λ k. ltb (get_or c.args.s.now (c.args.at + c.args.step * k) 0) c.args.limit) _ _ _ c.all.ensures.ran
    (YieldsList-from_range c.fours_below-looked.result c.args.n _ refl refl) (λ x b q k. search rules) ∙ every_number _ _ _ ∙ sym c.fours_below-looked.ensures.same
