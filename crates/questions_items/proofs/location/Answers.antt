use mathlib.Core.Path.{sym, ap, ◌∙◌}
use native.Mathlib.Omega.{arith}
use Rattle.questions.specs.Questions.{signed, location_answer}
use Rattle.questions.proofs.Standing.{refused-at, found_at}
use Rattle.questions_items.proofs.location.Goals as goal

pub returns-then-l-ne0 : goal.returns-then-l-ne0
unfolding location_answer
returns-then-l-ne0 c = ap signed (c.no_location.ensures ∙ sym (refused-at _ _ c.args.s.now c.args.wanted _ c.locate-l.ensures.0 c.if-l-ne0.true))

pub location_in-requires : goal.location_in-requires
location_in-requires c =
    let h = found_at (λ n p. n) (λ x. 0) c.args.s.now c.args.wanted _ c.locate-l.ensures.0 c.if-l-ne0.false in
    (h.inside, let l = h.long in let i = c.locate-l.ensures.1 in omega arith)

pub returns : goal.returns
unfolding location_answer
returns c =
    let h = found_at _ _ c.args.s.now c.args.wanted _ c.locate-l.ensures.0 c.if-l-ne0.false in
    ap signed (c.location_in.ensures ∙ sym (h.answer ∙ rw h.body))
