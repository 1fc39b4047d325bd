use Rattle.std.proofs.Common.{arith}
use Rattle.std.proofs.lemmas.List.Sorted.{searched}
use Rattle.moves_table.proofs.Tables.{same_lengths, old_starts_sorted, look_zero, look-here, look-nowhere}
use Rattle.moves_table.proofs.table.look_up.Goals as goal

pub returns-then-base-eq0 : goal.returns-then-base-eq0
returns-then-base-eq0 c = look_zero _ _ _ c.if-base-eq0.true

pub bounds-news-i : goal.bounds-news-i
bounds-news-i c = omega (arith, same_lengths c.args.olds.now c.args.news.now c.requires, c.in-Ok.ensures.bound)

pub returns-in-Ok : goal.returns-in-Ok
returns-in-Ok c =
    let found = rw c.in-Ok.is at (searched _ _ _ c.binary_search.ensures.position (old_starts_sorted _ _ c.requires)) in
    look-here _ _ _ c.if-base-eq0.false _ c.requires found.0 found.1

pub returns-in-Err : goal.returns-in-Err
returns-in-Err c =
    let none = rw c.in-Err.is at (searched _ _ _ c.binary_search.ensures.position (old_starts_sorted _ _ c.requires)) in
    look-nowhere _ _ _ c.if-base-eq0.false (λ k l e. grind (arith, none.1 k, none.2 k))
