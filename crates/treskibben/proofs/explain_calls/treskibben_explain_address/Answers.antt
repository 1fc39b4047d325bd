use Rattle.treskibben.proofs.explain_calls.treskibben_explain_address.Goals as goal

pub returns : goal.returns
returns c = rw c.at_address.ensures at c.reason_of.ensures
