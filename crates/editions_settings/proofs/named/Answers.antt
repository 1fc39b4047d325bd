use native.Mathlib.Omega.{arith}
use Rattle.editions_settings.proofs.Reading.{names_none, names_found}
use Rattle.editions_settings.proofs.named.Goals as goal

pub returns-then-read-ne0 : goal.returns-then-read-ne0
returns-then-read-ne0 c = names_none _ _ _ c.read-read.ensures _ c.unnamed.ensures (omega arith)

pub returns : goal.returns
returns c = names_found _ _ _ c.read-read.ensures _ c.settings_of.ensures (omega arith)
