use Rattle.relocate.specs.declared.Machine.{Machine}
use Rattle.thread.specs.Thread.{Thread, thread_of}
use Rattle.explain_frames.specs.Rows.{explain_thread, explain_thread_list}
use Rattle.restores.specs.Restores.{request}
use Rattle.restores_rows.proofs.Rows.{told-passed, told-refused}
use Rattle.restores_rows.proofs.explain_thread.Goals as goal

pub returns-then-begun : goal.returns-then-begun
returns-then-begun c =
    let a = c.args in
    let Q = request a.store a.edition a.section.now a.olds.now a.news.now a.first in
    let th : Machine → Thread = λ m. thread_of m a.list.now a.registers.now in
    told-passed Q a.machine c.begin-begun.result c.begin-begun.ensures a.rows.now
    (λ m R. explain_thread R a.image.now (th m) a.rows.now) (λ m R. explain_thread_list R a.image.now (th m) a.rows.now)
    c.if-begun.true _ _ c.explain.ensures.0 c.explain.ensures.1

pub returns : goal.returns
returns c =
    let a = c.args in
    let Q = request a.store a.edition a.section.now a.olds.now a.news.now a.first in
    let th : Machine → Thread = λ m. thread_of m a.list.now a.registers.now in
    told-refused Q a.machine c.begin-begun.result c.begin-begun.ensures a.rows.now (λ m R. explain_thread R a.image.now (th m) a.rows.now) (λ m R. explain_thread_list R a.image.now (th m) a.rows.now)
    c.if-begun.false _ c.refused.ensures
