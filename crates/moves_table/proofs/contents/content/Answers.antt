use Rattle.std.proofs.Common.{sym, ap, ◌∙◌}
use Rattle.moves.specs.Arrays.{as_option}
use Rattle.moves.proofs.Fills.{content-new, content-unknown}
use Rattle.moves_table.proofs.contents.content.Goals as goal

pub returns-in_err-to : goal.returns-in_err-to
returns-in_err-to c = ap as_option c.from_residual.ensures ∙ content-unknown _ _ _ (sym c.in_err-to.ensures)

pub returns : goal.returns
returns c = content-new _ _ _ _ c.ranges.base.fits (sym c.in_ok-to.ensures)
