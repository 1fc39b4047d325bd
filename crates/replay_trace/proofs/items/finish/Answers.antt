use mathlib.Core.Path.{sym, ◌∙◌}
use borrow.Author.Tests.{eq-eqb, ne_eqb}
use Rattle.replay.specs.Trace.{end_stands}
use Rattle.replay_trace.specs.Shapes.{ended}
use Rattle.replay_trace.proofs.items.finish.Goals as goal

pub returns-then-frame_stands : goal.returns-then-frame_stands
unfolding ended
returns-then-frame_stands c = rw (sym c.frame_stands.ensures ∙ c.if-frame_stands.true)

pub returns-then-not-stands : goal.returns-then-not-stands
unfolding ended end_stands
returns-then-not-stands c = rw (sym c.frame_stands.ensures ∙ c.if-frame_stands.false, sym c.stands.ensures ∙ c.if-not-stands.true)

pub returns-then-at-t : goal.returns-then-at-t
unfolding ended end_stands
returns-then-at-t c = rw (sym c.frame_stands.ensures ∙ c.if-frame_stands.false, sym c.stands.ensures ∙ c.if-not-stands.false, ne_eqb _ _ c.if-at-t.true)

pub returns : goal.returns
unfolding ended end_stands
returns c = rw (sym c.frame_stands.ensures ∙ c.if-frame_stands.false, sym c.stands.ensures ∙ c.if-not-stands.false, eq-eqb _ _ c.if-at-t.false)
