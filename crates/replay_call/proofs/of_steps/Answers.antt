use native.Mathlib.Omega.{arith}
use Rattle.relocate.specs.Restore.{restore}
use Rattle.replay_call.proofs.Calling.{edition-unknown, edition-found}
use Rattle.replay_call.proofs.of_steps.Goals as goal

pub returns-then-named-ne0 : goal.returns-then-named-ne0
returns-then-named-ne0 c =
    let a = c.args in
    edition-unknown a.store a.edition (restore a.section.now a.olds.now a.news.now a.first) a.image.now a.trace.now a.all c.named-named.ensures (omega arith)
    (rw c.refused.ensures at c.alike.ensures)

pub returns : goal.returns
returns c =
    let a = c.args in
    edition-found a.store a.edition (restore a.section.now a.olds.now a.news.now a.first) a.image.now a.trace.now a.all c.named-named.ensures (omega arith)
    c.replay_all.ensures
