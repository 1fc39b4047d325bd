use mathlib.Core.Path.{ap, ◌∙◌}
use Rattle.treskibben_reasons.specs.Answer.{reason_answer}
use Rattle.treskibben.proofs.edition_moves.treskibben_edition_explain_address.Goals as goal

pub returns : goal.returns
returns c =
    let a = c.at_address.ensures in
    let t = rw a at c.explain.ensures in
    c.reason_answer.ensures ∙ ap reason_answer t
