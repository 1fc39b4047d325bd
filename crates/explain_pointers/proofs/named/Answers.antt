use mathlib.Core.Path.{refl, ◌∙◌}
use borrow.Author.Tests.{tests}
use Rattle.std.proofs.Common.{rules, arith}
use Rattle.std.proofs.lemmas.Iterator.{YieldsList-from_range}
use Rattle.std.proofs.lemmas.Iterator.Search.{any_from_yields_List}
use Rattle.explain_pointers.specs.Told.{named_at}
use Rattle.explain_pointers.proofs.Searching.{any_below-n}
use Rattle.explain_pointers.proofs.named.Goals as goal

pub returns : goal.returns
returns c =
    let t = named_at c.args.live.now c.args.numbers.now c.args.x in
    any_from_yields_List t _ _ _ c.any.ensures.ran (YieldsList-from_range 0 c.args.pointers c.args.pointers refl (omega arith)) (λ x b q k. search (rules, tests))
    ∙ any_below-n t c.args.pointers
