use Rattle.std.proofs.Common.{sym, ◌∙◌, arith}
use Rattle.moves_table.proofs.Tables.{rising-end, rising_stop, rising_on}
use Rattle.moves_table.proofs.table.rises.Goals as goal

pub returns-then-old-last : goal.returns-then-old-last
returns-then-old-last c =
    let l = c.loop-old in
    sym (rising_stop l.last l.old-index c.args.olds.now (omega arith) (omega arith)) ∙ l.invariant

pub loop-old-preserved : goal.loop-old-preserved
loop-old-preserved c =
    let l = c.loop-old in
    sym (rising_on l.last l.old-index c.args.olds.now (omega arith) (omega arith)) ∙ l.invariant

pub returns : goal.returns
returns c =
    let l = c.loop-old in
    sym (rising-end l.last l.old-index c.args.olds.now (omega arith)) ∙ l.invariant
