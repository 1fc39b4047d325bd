use Rattle.treskibben.proofs.linked_sections.treskibben_linked_maps.Goals as goal

pub returns : goal.returns
returns c =
    let t = c.maps-m.ensures in
    (rw (c.maps_answer.ensures, t.number, t.place, t.count), t.output)
