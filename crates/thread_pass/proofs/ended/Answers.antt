use mathlib.Core.Path.{refl}
use Rattle.thread_pass.proofs.ended.Goals as goal

pub returns-then-at-s : goal.returns-then-at-s
returns-then-at-s c = ((λ e. absurd (c.if-at-s.true e)), λ e. refl)

pub returns : goal.returns
returns c = ((λ e. refl), λ e. absurd (e c.if-at-s.false))
