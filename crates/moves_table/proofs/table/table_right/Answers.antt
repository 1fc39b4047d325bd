use Rattle.std.proofs.Common.{arith}
use Rattle.std.proofs.lemmas.Grind.{common_steps}
use Rattle.moves.specs.Table.{table_right}
use Rattle.moves_table.proofs.Tables.{no_zero-contains}
use Rattle.moves_table.proofs.table.table_right.Goals as goal

pub returns-then-rises : goal.returns-then-rises
unfolding table_right
returns-then-rises c = grind (arith, common_steps, no_zero-contains c.args.news.now, c.contains.ensures.value)

pub returns-else-rises : goal.returns-else-rises
unfolding table_right
returns-else-rises c = grind (arith, common_steps)
