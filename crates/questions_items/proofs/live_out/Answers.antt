use mathlib.Core.Path.{sym, ◌∙◌}
use native.Mathlib.Omega.{arith}
use Rattle.questions.specs.Questions.{live_out_answer}
use Rattle.questions.proofs.Standing.{refused-at, found_at}
use Rattle.questions_items.proofs.live_out.Goals as goal

pub returns-then-l-ne0 : goal.returns-then-l-ne0
unfolding live_out_answer
returns-then-l-ne0 c = c.no_live_out.ensures ∙ sym (refused-at _ _ c.args.s.now c.args.wanted _ c.locate-l.ensures.0 c.if-l-ne0.true)

pub live_out_in-requires : goal.live_out_in-requires
live_out_in-requires c =
    let h = found_at (λ n p. n) (λ x. 0) c.args.s.now c.args.wanted _ c.locate-l.ensures.0 c.if-l-ne0.false in
    let l = h.long in let i = c.locate-l.ensures.1 in omega arith

pub returns : goal.returns
unfolding live_out_answer
returns c =
    let h = found_at _ _ c.args.s.now c.args.wanted _ c.locate-l.ensures.0 c.if-l-ne0.false in
    c.live_out_in.ensures ∙ sym (h.answer ∙ rw h.body)
