use mathlib.Core.Path.{sym, ap, ◌∙◌}
use Rattle.moves.specs.Arrays.{as_option}
use Rattle.moves.proofs.Fills.{renew_null, renew_new, renew_unknown}
use Rattle.moves_slots.proofs.renewal.renew_one.Goals as goal

pub returns-then-live-k-eq0 : goal.returns-then-live-k-eq0
returns-then-live-k-eq0 c = renew_null _ _ _ _ _ _ c.if-live-k-eq0.true

pub read-old-requires : goal.read-old-requires
read-old-requires c = c.requires.2 c.if-live-k-eq0.false

pub returns-in-Some : goal.returns-in-Some
returns-in-Some c =
    renew_new _ _ _ _ _ _ _ c.if-live-k-eq0.false
    (sym (ap as_option c.in-Some.is) ∙ c.content.ensures ∙ rw c.read-old.ensures)

pub returns-in-None : goal.returns-in-None
returns-in-None c =
    renew_unknown _ _ _ _ _ _ _ c.if-live-k-eq0.false
    (sym (ap as_option c.in-None.is) ∙ c.content.ensures ∙ rw c.read-old.ensures)
