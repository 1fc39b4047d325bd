use Rattle.std.proofs.Common.{◌≡◌, drop}
use Rattle.moves.specs.Table.{rising}
use Rattle.moves_table.proofs.table.rises.Given as goal

abbrev pub invariant-loop-old : goal.invariant-loop-old
invariant-loop-old l = rising l.last (drop l.old-index l.olds) ≡ rising 0 l.olds
