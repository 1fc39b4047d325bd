use Rattle.treskibben.proofs.index_lookups.treskibben_find_all_by_index.Goals as goal

pub returns : goal.returns
returns c =
    let t = c.find_all_by_index-w.ensures in
    (rw (c.written_answer.ensures, t.number, t.place, t.written), t.output)
