use mathlib.Core.Path.{sym, ◌∙◌}
use Rattle.moves.specs.Slots.{state}
use Rattle.explain_pointers.specs.Told.{moves_at}
use Rattle.explain_pointers.proofs.Searching.{lowest-at, moves_live, told_moved, told-null, told-base, told_none}
use Rattle.explain_search.proofs.among.of_number.Goals as goal

pub read-base-requires : goal.read-base-requires
read-base-requires c =
    let a = c.args in
    let k = c.first_moved-hit in
    let t = moves_at (state a.window.now a.registers.now) a.live.now a.bases.now a.derived.now a.x in
    c.requires.2.base_in k.result c.if-hit-pointers.true (moves_live _ _ _ _ _ _ (lowest-at t a.pointers k.result k.ensures c.if-hit-pointers.true))

pub returns-then-hit-pointers : goal.returns-then-hit-pointers
returns-then-hit-pointers c f = told_moved _ _ _ _ _ _ _ _ _ c.first_moved-hit.ensures c.if-hit-pointers.true _ _ _ (c.pair_of-pair.ensures f) c.read-base.ensures c.new_start.ensures

pub returns-then-named : goal.returns-then-named
returns-then-named c f = told-null _ _ _ _ _ _ _ _ _ c.first_moved-hit.ensures c.if-hit-pointers.false (sym c.if-named.true ∙ c.named.ensures)

pub returns-then-named-2 : goal.returns-then-named-2
returns-then-named-2 c f = told-base _ _ _ _ _ _ _ _ _ c.first_moved-hit.ensures c.if-hit-pointers.false (sym c.if-named.false ∙ c.named.ensures) (sym c.if-named-2.true ∙ c.named-2.ensures)

pub returns : goal.returns
returns c f = told_none _ _ _ _ _ _ _ _ _ c.first_moved-hit.ensures c.if-hit-pointers.false (sym c.if-named.false ∙ c.named.ensures) (sym c.if-named-2.false ∙ c.named-2.ensures)
