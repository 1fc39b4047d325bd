use Rattle.treskibben.proofs.explain_calls.treskibben_explain_register.Goals as goal

pub returns : goal.returns
returns c = rw c.of_register.ensures at c.reason_of.ensures
