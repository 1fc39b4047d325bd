use mathlib.Core.Path.{◌∙◌}
use Rattle.flat_check.proofs.Chain.{ask-refused, ask-accepted}
use Rattle.flat_match.specs.Find.{not_found, by_address}
use Rattle.flat_find.proofs.find.Goals as goal

pub returns-then-refusal-ne0 : goal.returns-then-refusal-ne0
unfolding by_address
returns-then-refusal-ne0 c = c.not_found.ensures ∙ ask-refused not_found _ _ _ c.check-refusal.ensures c.if-refusal-ne0.true

pub returns-then-named-gt-NAMED_MOST : goal.returns-then-named-gt-NAMED_MOST
unfolding by_address
returns-then-named-gt-NAMED_MOST c = c.by_keys.ensures ∙ ask-accepted not_found _ _ _ c.check-refusal.ensures c.if-refusal-ne0.false

pub returns-else-named-gt-NAMED_MOST : goal.returns-else-named-gt-NAMED_MOST
unfolding by_address
returns-else-named-gt-NAMED_MOST c = c.one_by_one.ensures ∙ ask-accepted not_found _ _ _ c.check-refusal.ensures c.if-refusal-ne0.false
