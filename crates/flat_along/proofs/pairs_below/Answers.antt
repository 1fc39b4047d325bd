use Rattle.std.proofs.Common.{ℕ, ◌≡◌, arith, rules, refl, ◌∙◌, ◌+◌, ◌*◌, sym}
use Rattle.std.proofs.lemmas.Iterator.{YieldsList-from_range}
use Rattle.std.proofs.lemmas.Iterator.Search.{all_from_yields_List}
use lib.Dec.{ltb}
use lib.ListN.{get_or}
use mathlib.Core.Bool.{◌&&◌}
use Rattle.flat.specs.Places.{along}
use Rattle.flat.proofs.Steps.{every-both}
use Rattle.flat_along.proofs.Below.{every_number}
use Rattle.flat_along.proofs.pairs_below.Goals as goal

pub returns : goal.returns
unfolding along
returns c =
    let low = λ (k : ℕ). ltb (get_or c.args.s.now (c.args.at + c.args.step * k) 0) c.args.low in
    let high = λ (k : ℕ). ltb (get_or c.args.s.now (c.args.at + 1 + c.args.step * k) 0) c.args.high in
    all_from_yields_List (λ k. low k && high k) _ _ _ c.all.ensures.ran
    (YieldsList-from_range 0 c.args.n c.args.n refl (omega arith)) (λ x b q k. let e : c.args.at + 1 + c.args.step * x ≡ c.args.at + c.args.step * x + 1 = omega arith in rw e (search rules)) ∙ every_number _ _ _ ∙ sym (every-both low high 0 c.args.n)
