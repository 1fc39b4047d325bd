use Rattle.relocate.specs.Restore.{restore}
use Rattle.replay_call.proofs.Calling.{trace-broken, trace-whole}
use Rattle.replay_call.proofs.replay.Goals as goal

pub of_steps-requires : goal.of_steps-requires
of_steps-requires c = let k = rw c.in-Ok.is at c.measure.ensures in k.1

pub returns-in-Err : goal.returns-in-Err
returns-in-Err c =
    let a = c.args in
    let k = rw c.in-Err.is at c.measure.ensures in
    trace-broken a.store a.edition (restore a.section.now a.olds.now a.news.now a.first) a.image.now a.trace.now _ k

pub returns-in-Ok : goal.returns-in-Ok
returns-in-Ok c =
    let a = c.args in
    let k = rw c.in-Ok.is at c.measure.ensures in
    trace-whole a.store a.edition (restore a.section.now a.olds.now a.news.now a.first) a.image.now a.trace.now _ k.0 c.of_steps.ensures
