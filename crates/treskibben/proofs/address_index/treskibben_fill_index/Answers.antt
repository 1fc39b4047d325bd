use Rattle.treskibben.proofs.address_index.treskibben_fill_index.Goals as goal

pub returns : goal.returns
returns c =
    let t = c.fill-w.ensures in
    (rw (c.written_answer.ensures, t.number, t.place, t.written), t.output)
