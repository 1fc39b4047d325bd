use Rattle.restores.proofs.refused.Goals as goal

pub returns : goal.returns
returns c = rw c.everything.ensures.0
