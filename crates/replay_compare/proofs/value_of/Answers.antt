use borrow.Author.Tests.{eq-eqb, ne_eqb}
use Rattle.replay.specs.Replay.{value_of}
use Rattle.replay_compare.proofs.value_of.Goals as goal

pub returns-then-m-eq0 : goal.returns-then-m-eq0
unfolding value_of
returns-then-m-eq0 c = rw (eq-eqb _ _ c.if-m-eq0.true)

pub returns-else-m-eq0 : goal.returns-else-m-eq0
unfolding value_of
returns-else-m-eq0 c = rw (ne_eqb _ _ c.if-m-eq0.false)
