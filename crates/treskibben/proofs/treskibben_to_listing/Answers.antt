use mathlib.Core.Path.{◌∙◌}
use Rattle.treskibben.proofs.treskibben_to_listing.Goals as goal

pub returns : goal.returns
returns c =
    let t = c.to_listing.ensures in
    (c.conversion_answer.ensures ∙ rw (t.number, t.place, t.written), t.output)
