use mathlib.Core.Path.{sym, ◌∙◌}
use Rattle.replay.specs.Code as code
use Rattle.replay_frames.proofs.fault.Goals as goal

pub returns-then-table_right : goal.returns-then-table_right
unfolding code.fault
returns-then-table_right c = λ s settings. rw (sym c.image_right.ensures ∙ c.if-image_right.true, sym c.table_right.ensures ∙ c.if-table_right.true)

pub returns-then-image_right : goal.returns-then-image_right
unfolding code.fault
returns-then-image_right c = λ s settings. rw (sym c.image_right.ensures ∙ c.if-image_right.true, sym c.table_right.ensures ∙ c.if-table_right.false)

pub returns : goal.returns
unfolding code.fault
returns c = λ s settings. rw (sym c.image_right.ensures ∙ c.if-image_right.false)
