use mathlib.Core.Path.{sym, ap, ◌∙◌}
use Rattle.moves.specs.Arrays.{as_option}
use Rattle.explain_search.proofs.among.reason.Goals as goal

pub returns-in-Some : goal.returns-in-Some
returns-in-Some c f = let e = sym (ap as_option c.in-Some.is) ∙ c.number_of.ensures in rw (← e) (c.of_number.ensures f)

pub returns-in-None : goal.returns-in-None
returns-in-None c f = let e = sym (ap as_option c.in-None.is) ∙ c.number_of.ensures in rw (← e)
