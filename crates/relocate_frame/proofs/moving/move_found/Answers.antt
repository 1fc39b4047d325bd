use Rattle.relocate_plan.proofs.Following.{refuses}
use Rattle.relocate_frame.proofs.moving.move_found.Goals as goal

pub returns-then-outline-ne0 : goal.returns-then-outline-ne0
returns-then-outline-ne0 c =
    let a = c.args in
    refuses _ _ _ _ _ _ _ _ c.refused.ensures ((c.outline_found-outline.ensures a.olds.now a.news.now).refused c.if-outline-ne0.true)

pub move_slots-requires : goal.move_slots-requires
move_slots-requires c =
    let a = c.args in
    let o = (c.outline_found-outline.ensures a.olds.now a.news.now).stands c.if-outline-ne0.false in
    let f = o.formed in
    (f.paired, f.old_is, f.forms, f.counted, f.few, c.requires.5, o.extent, o.small, c.requires.3)

pub returns : goal.returns
returns c =
    let a = c.args in
    rw ((c.outline_found-outline.ensures a.olds.now a.news.now).goes_on c.if-outline-ne0.false) c.move_slots.ensures
