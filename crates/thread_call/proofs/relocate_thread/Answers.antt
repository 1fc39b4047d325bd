use mathlib.Core.Path.{ap}
use Rattle.stackmap.specs.Verdict.{verdict}
use mathlib.Core.Path.{sym, ◌∙◌}
use Rattle.relocate.specs.Restore.{restore}
use Rattle.thread.specs.Thread.{thread_of}
use Rattle.thread_call.proofs.Whole.{thread-section, valid-accepted, blank_holds, blank_counted}
use Rattle.thread_call.proofs.relocate_thread.Goals as goal

pub find_all-requires : goal.find_all-requires
find_all-requires c = (c.count-count.ensures.1, c.gather.ensures.sorted, blank_holds _ _ 16384, blank_counted 16384)

pub of_checked-requires : goal.of_checked-requires
of_checked-requires c =
    let a = c.args in
    let v = ap verdict c.in-Ok.is in
    let f = c.find_all.ensures in
    let n = c.count-count.ensures in (
      record {
        section_right = valid-accepted a.section.now _ (sym v ∙ f.0);
        room = n.0;
        most = n.1;
        gathered = c.gather.ensures;
        found = f.1 _ v;
      },
      n.2,
      c.requires,
    )

pub returns-in-Err : goal.returns-in-Err
returns-in-Err c =
    let a = c.args in
    rw (c.refused.ensures, c.number.ensures)
    (thread-section (restore a.section.now a.olds.now a.news.now a.first a.settings) a.image.now (thread_of a.machine a.list.now a.registers.now) _ _
    (sym c.find_all.ensures.0 ∙ ap verdict c.in-Err.is))
