use Rattle.stackmap.specs.Check.{counts_right}
use Rattle.parser_walk.proofs.counts_right.Goals as goal

pub returns-then-plan : goal.returns-then-plan
unfolding counts_right
returns-then-plan c = rw c.if-plan.true

pub returns-else-plan : goal.returns-else-plan
unfolding counts_right
returns-else-plan c = rw c.if-plan.false c.counts_add_up.ensures
