use Rattle.std.proofs.Common.{rules}
use Rattle.std.proofs.lemmas.List.Sorted.{IsPartitionPoint-from_clause}
use Rattle.sorted_pairs.proofs.Halving.{before_pair, rows_parted, rows_bound}
use Rattle.sorted_pairs.proofs.lower.Goals as goal

pub returns : goal.returns
returns c =
    let a = c.args in
    let k = c.as_chunks.ensures in
    let e = c.partition_point.ensures in
    let p = IsPartitionPoint-from_clause (before_pair a.a a.b) _ _ e.partitioned
    (rows_parted a.list.now a.n a.a a.b c.requires.0 c.requires.1 c.ranges.b.fits (λ i. (c.type_inv.list i).fits) _ k.front k.front_len) (λ y r q h. search rules) in
    rows_bound a.list.now a.n a.a a.b c.requires.0 c.requires.1 c.ranges.b.fits (λ i. (c.type_inv.list i).fits) _ k.front k.front_len _ e.bound p
