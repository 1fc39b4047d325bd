use native.Mathlib.Omega.{arith}
use Rattle.index_answers.proofs.Writes.{few-functions}
use Rattle.index_answers.proofs.answer_all.Goals as goal

pub mark-count-requires : goal.mark-count-requires
mark-count-requires c =
    let i = c.requires.0 in
    let m = i.many in
    let n = i.small in
    let f = few-functions c.args.s.now i.walkable i.new i.short in
    (i.walkable, i.new, omega arith, omega arith)
