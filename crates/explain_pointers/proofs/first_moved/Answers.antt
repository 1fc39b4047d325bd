use mathlib.Core.Path.{refl, ◌∙◌}
use borrow.Author.Tests.{tests}
use Rattle.std.proofs.Common.{rules, arith}
use Rattle.std.proofs.lemmas.Iterator.{YieldsList-from_range}
use Rattle.std.proofs.lemmas.Iterator.Search.{position_from_yields_List}
use Rattle.moves.specs.Slots.{state}
use Rattle.explain_pointers.specs.Told.{moves_at}
use Rattle.explain_pointers.proofs.Searching.{position_below-n}
use Rattle.explain_pointers.proofs.first_moved.Goals as goal

pub returns : goal.returns
returns c =
    let a = c.args in
    let t = moves_at (state a.window.now a.registers.now) a.live.now a.bases.now a.derived.now a.x in
    c.unwrap_or.ensures
    ∙ position_below-n t a.pointers _
    (position_from_yields_List t _ _ _ c.position.ensures.ran (YieldsList-from_range 0 a.pointers a.pointers refl (omega arith)) (λ x b q k. search (rules, tests)))
