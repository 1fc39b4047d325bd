use native.Mathlib.Omega.{arith}
use Rattle.restores.specs.Restores.{request}
use Rattle.restores_thread.specs.Threads.{numbered_thread}
use Rattle.controller_editions.proofs.Calling.{thread_31, thread_on}
use Rattle.controller_editions.proofs.relocate_thread.Goals as goal

pub returns-then-named-ne0 : goal.returns-then-named-ne0
returns-then-named-ne0 c =
    let a = c.args in
    let Q = request a.store a.edition a.section.now a.olds.now a.news.now a.first in
    thread_31 Q a.image.now _ c.named-named.ensures (numbered_thread a.machine a.list.now a.registers.now) (omega arith) c.refused.ensures

pub returns : goal.returns
returns c =
    let a = c.args in
    let Q = request a.store a.edition a.section.now a.olds.now a.news.now a.first in
    let t = numbered_thread a.machine a.list.now a.registers.now in
    thread_on Q a.image.now _ c.named-named.ensures t _ (omega arith) c.machine_of-known.ensures c.relocate_thread.ensures
