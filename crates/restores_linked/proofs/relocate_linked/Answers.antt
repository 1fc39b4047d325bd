use native.Mathlib.Omega.{arith}
use borrow.Author.Tests.{lt-leb, le-leb}
use Rattle.restores.specs.Restores.{request}
use Rattle.restores_thread.specs.Threads.{numbered_thread}
use Rattle.restores_linked.proofs.Under.{under_31, under_33, under_moved}
use Rattle.restores_linked.proofs.relocate_linked.Goals as goal

pub returns-then-named-ne0 : goal.returns-then-named-ne0
returns-then-named-ne0 c =
    let a = c.args in
    let Q = request a.store a.edition a.section.now a.olds.now a.news.now a.first in
    let t = numbered_thread a.machine a.list.now a.registers.now in
    under_31 Q a.image.now t _ c.named-named.ensures c.refused.ensures (omega arith)

pub returns-then-machine-gt-LAST_MACHINE : goal.returns-then-machine-gt-LAST_MACHINE
returns-then-machine-gt-LAST_MACHINE c =
    let a = c.args in
    let Q = request a.store a.edition a.section.now a.olds.now a.news.now a.first in
    let t = numbered_thread a.machine a.list.now a.registers.now in
    under_33 Q a.image.now t _ c.named-named.ensures _ c.unknown_machine.ensures c.check.ensures (omega arith)
    (lt-leb a.machine 1 (omega arith))

pub relocate_linked-requires : goal.relocate_linked-requires
relocate_linked-requires c = c.named-named.ensures.most_right

pub returns : goal.returns
returns c =
    let a = c.args in
    let Q = request a.store a.edition a.section.now a.olds.now a.news.now a.first in
    let t = numbered_thread a.machine a.list.now a.registers.now in
    under_moved Q a.image.now t _ c.named-named.ensures _ c.machine_of-known.ensures (omega arith) (le-leb a.machine 1 (omega arith))
    c.relocate_linked.ensures
