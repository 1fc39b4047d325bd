use native.Mathlib.Omega.{arith}
use mathlib.Core.Path.{sym, ◌∙◌}
use Rattle.replay.specs.Trace.{frame_stands}
use Rattle.listing.proofs.Items.{is_item}
use Rattle.replay_trace.proofs.items.frame_stands.Goals as goal

pub bounds-t-at : goal.bounds-t-at
bounds-t-at c =
    let a = c.args in
    let i = is_item 1 274 a.t.now a.at (sym c.stands.ensures ∙ c.if-stands.true) in
    omega arith

pub returns-then-stands : goal.returns-then-stands
unfolding frame_stands
returns-then-stands c = rw (sym c.stands.ensures ∙ c.if-stands.true)

pub returns-else-stands : goal.returns-else-stands
unfolding frame_stands
returns-else-stands c = c.if-stands.false ∙ rw (sym c.stands.ensures ∙ c.if-stands.false)
