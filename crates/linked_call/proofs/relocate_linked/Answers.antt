use mathlib.Core.Path.{ap}
use Rattle.stackmap.specs.Verdict.{verdict}
use mathlib.Core.Path.{sym, ◌∙◌}
use Rattle.relocate.specs.Restore.{restore}
use Rattle.thread.specs.Thread.{thread_of}
use Rattle.thread_call.proofs.Whole.{blank_holds, blank_counted}
use Rattle.linked_call.proofs.Whole.{linked_refused, linked_moved}
use Rattle.linked_call.proofs.relocate_linked.Goals as goal

pub find_all-requires : goal.find_all-requires
find_all-requires c = (c.count-count.ensures.1, c.gather.ensures.sorted, blank_holds _ _ 16384, blank_counted 16384)

pub returns-in-Err : goal.returns-in-Err
returns-in-Err c =
    let a = c.args in
    rw (c.refused.ensures, c.number.ensures)
    (linked_refused (restore a.section.now a.olds.now a.news.now a.first a.settings) a.image.now (thread_of a.machine a.list.now a.registers.now) _ _
    (sym c.find_all.ensures.0 ∙ ap verdict c.in-Err.is))

pub of_maps-requires : goal.of_maps-requires
of_maps-requires c =
    let v = ap verdict c.in-Ok.is in
    let n = c.count-count.ensures in (
      record {
        standing = (c.find_all.ensures.1 _ v).1;
        room = n.0;
        most = n.1;
        gathered = c.gather.ensures;
        found = (c.find_all.ensures.1 _ v).0;
      },
      n.2,
      c.requires,
    )

pub returns-in-Ok : goal.returns-in-Ok
returns-in-Ok c =
    let a = c.args in
    linked_moved (restore a.section.now a.olds.now a.news.now a.first a.settings) a.image.now (thread_of a.machine a.list.now a.registers.now) _
    (sym c.find_all.ensures.0 ∙ ap verdict c.in-Ok.is) c.of_maps.ensures
