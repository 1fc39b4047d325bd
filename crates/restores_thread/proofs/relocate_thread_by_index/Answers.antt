use Rattle.restores.specs.Restores.{request}
use Rattle.restores.proofs.Moving.{gives-refused}
use Rattle.restores_thread.specs.Threads.{numbered_thread}
use Rattle.restores_thread.proofs.Threading.{by_index-passed}
use Rattle.restores_thread.proofs.relocate_thread_by_index.Goals as goal

pub relocate_thread_by_index-requires : goal.relocate_thread_by_index-requires
relocate_thread_by_index-requires c = c.begin-begun.ensures.most_right

pub returns-then-begun : goal.returns-then-begun
returns-then-begun c =
    let a = c.args in
    let Q = request a.store a.edition a.section.now a.olds.now a.news.now a.first in
    let t = numbered_thread a.machine a.list.now a.registers.now in
    by_index-passed Q a.image.now t _ c.begin-begun.ensures c.if-begun.true _ _ _ a.index.now c.relocate_thread_by_index.ensures

pub returns : goal.returns
returns c =
    let a = c.args in
    let Q = request a.store a.edition a.section.now a.olds.now a.news.now a.first in
    gives-refused Q a.machine _ c.begin-begun.ensures a.image.now a.registers.now _ _ _ _ c.refused.ensures c.if-begun.false
