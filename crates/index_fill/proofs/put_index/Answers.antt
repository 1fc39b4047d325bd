use Rattle.sorted_pairs.proofs.Steps.{reordered-none}
use Rattle.index_fill.proofs.Whole.{put-in_order}
use Rattle.index_fill.proofs.put_index.Goals as goal

pub returns-then-put_rows : goal.returns-then-put_rows
returns-then-put_rows c =
    let p = c.put_rows in
    rw c.requires.2 (put-in_order _ c.requires.0 _ _ (rw c.requires.2 at c.requires.4) (rw c.requires.2 at c.requires.3) (rw p.ensures.0 (reordered-none _ _)) (p.ensures.1 c.if-put_rows.true))

pub returns : goal.returns
returns c =
    let p = c.put_rows in
    let o = c.sort in
    rw c.requires.2 (put-in_order _ c.requires.0 _ _ (rw c.requires.2 at c.requires.4) (rw c.requires.2 at c.requires.3) (rw (c.requires.2, p.ensures.0) at o.ensures.0) (rw c.requires.2 at o.ensures.1))
