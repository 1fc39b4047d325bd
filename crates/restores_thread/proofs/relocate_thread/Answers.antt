use Rattle.restores.specs.Restores.{request}
use Rattle.restores.proofs.Moving.{gives-refused}
use Rattle.restores_thread.specs.Threads.{numbered_thread}
use Rattle.restores_thread.proofs.Threading.{threads_passed}
use Rattle.restores_thread.proofs.relocate_thread.Goals as goal

pub relocate_thread-requires : goal.relocate_thread-requires
relocate_thread-requires c = c.begin-begun.ensures.most_right

pub returns-then-begun : goal.returns-then-begun
returns-then-begun c =
    let a = c.args in
    let Q = request a.store a.edition a.section.now a.olds.now a.news.now a.first in
    let t = numbered_thread a.machine a.list.now a.registers.now in
    threads_passed Q a.image.now t _ c.begin-begun.ensures c.if-begun.true _ _ _ c.relocate_thread.ensures

pub returns : goal.returns
returns c =
    let a = c.args in
    let Q = request a.store a.edition a.section.now a.olds.now a.news.now a.first in
    gives-refused Q a.machine _ c.begin-begun.ensures a.image.now a.registers.now _ _ _ _ c.refused.ensures c.if-begun.false
