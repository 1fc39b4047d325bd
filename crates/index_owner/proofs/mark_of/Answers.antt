use native.Mathlib.Omega.{arith}
use borrow.Author.Rules.{rules}
use lib.Dec.{leb}
use Rattle.std.proofs.lemmas.List.Sorted.{IsPartitionPoint-from_clause}
use Rattle.index_owner.proofs.Laws.{marks-rise, last_mark}
use Rattle.index_owner.proofs.mark_of.Goals as goal

pub overflow_sub-result : goal.overflow_sub-result
overflow_sub-result c =
    let m = c.requires.0.marking in
    let p = IsPartitionPoint-from_clause (λ y. leb y c.args.number) _ _ c.partition_point.ensures.partitioned (marks-rise _ _ _ m c.args.number) (λ a r f k. search rules) in
    let l = last_mark _ _ _ m c.args.number c.partition_point.result c.requires.1 c.partition_point.ensures.bound p in
    l.0

pub returns : goal.returns
returns c =
    let m = c.requires.0.marking in
    let p = IsPartitionPoint-from_clause (λ y. leb y c.args.number) _ _ c.partition_point.ensures.partitioned (marks-rise _ _ _ m c.args.number) (λ a r f k. search rules) in
    let l = last_mark _ _ _ m c.args.number c.partition_point.result c.requires.1 c.partition_point.ensures.bound p in
    (omega arith, l.2)
