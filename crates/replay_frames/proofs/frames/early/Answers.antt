use mathlib.Core.Path.{sym, ◌∙◌}
use Rattle.replay_frames.proofs.frames.early.Goals as goal

pub returns-then-allowed : goal.returns-then-allowed
returns-then-allowed c = rw (sym c.allowed.ensures ∙ c.if-allowed.true)

pub returns : goal.returns
returns c = rw (sym c.allowed.ensures ∙ c.if-allowed.false)
