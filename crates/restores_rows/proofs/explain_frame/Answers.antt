use Rattle.relocate.specs.declared.Machine.{Machine}
use Rattle.relocate.specs.Stopped.{Stopped, stopped}
use Rattle.explain.specs.Rows.{explain_frame, explain_frame_list}
use Rattle.restores.specs.Restores.{request}
use Rattle.restores_rows.proofs.Rows.{told-passed, told-refused}
use Rattle.restores_rows.proofs.explain_frame.Goals as goal

pub returns-then-begun : goal.returns-then-begun
returns-then-begun c =
    let a = c.args in
    let Q = request a.store a.edition a.section.now a.olds.now a.news.now a.first in
    let st : Machine → Stopped = λ m. stopped (record { machine = m; address = a.address; function = a.function }) a.registers.now in
    told-passed Q a.machine c.begin-begun.result c.begin-begun.ensures a.rows.now
    (λ m R. explain_frame R a.image.now (st m) a.rows.now) (λ m R. explain_frame_list R a.image.now (st m) a.rows.now)
    c.if-begun.true _ _ c.explain.ensures.0 c.explain.ensures.1

pub returns : goal.returns
returns c =
    let a = c.args in
    let Q = request a.store a.edition a.section.now a.olds.now a.news.now a.first in
    let st : Machine → Stopped = λ m. stopped (record { machine = m; address = a.address; function = a.function }) a.registers.now in
    told-refused Q a.machine c.begin-begun.result c.begin-begun.ensures a.rows.now (λ m R. explain_frame R a.image.now (st m) a.rows.now) (λ m R. explain_frame_list R a.image.now (st m) a.rows.now)
    c.if-begun.false _ c.refused.ensures
