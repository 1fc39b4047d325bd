use Rattle.treskibben_replays.proofs.replay_answer.Goals as goal

pub returns-in-Broken : goal.returns-in-Broken
returns-in-Broken c = rw c.in-Broken.is

pub returns-in-Same : goal.returns-in-Same
returns-in-Same c = rw c.in-Same.is

pub returns-in-Differs : goal.returns-in-Differs
returns-in-Differs c = rw c.in-Differs.is
