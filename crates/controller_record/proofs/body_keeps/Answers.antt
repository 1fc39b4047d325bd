use mathlib.Core.Path.{sym, ◌∙◌}
use Rattle.controller_record.proofs.body_keeps.Goals as goal

pub pairs_keep-requires : goal.pairs_keep-requires
pairs_keep-requires c = (c.requires, sym c.is_statepoint.ensures ∙ c.if-is_statepoint.true)

pub returns-then-is_statepoint : goal.returns-then-is_statepoint
returns-then-is_statepoint c = rw (sym c.is_statepoint.ensures ∙ c.if-is_statepoint.true) c.pairs_keep.ensures

pub returns : goal.returns
returns c = rw (sym c.is_statepoint.ensures ∙ c.if-is_statepoint.false)
