use mathlib.Core.Path.{ap}
use Rattle.stackmap.specs.Verdict.{verdict}
use mathlib.Core.Path.{sym, ◌∙◌}
use Rattle.relocate.specs.Restore.{restore}
use Rattle.thread.specs.Thread.{thread_of, frames_of}
use Rattle.thread_call.proofs.Whole.{valid-accepted, blank_holds, blank_counted}
use Rattle.explain_frames.specs.Rows.{thread_rows}
use Rattle.explain_thread.proofs.Accepted.{section_no, section-kept}
use Rattle.explain_thread.proofs.explain.Goals as goal

pub find_all-requires : goal.find_all-requires
find_all-requires c = (c.count-count.ensures.1, c.gather.ensures.sorted, blank_holds _ _ 16384, blank_counted 16384)

pub of_checked-requires : goal.of_checked-requires
of_checked-requires c =
    let a = c.args in
    let v = ap verdict c.in-Ok.is in
    let f = c.find_all.ensures in
    let n = c.count-count.ensures in (
      record {
        section_right = valid-accepted a.section.now _ (sym v ∙ f.0);
        room = n.0;
        most = n.1;
        gathered = c.gather.ensures;
        found = f.1 _ v;
      },
      n.2,
      c.requires,
    )

pub returns-in-Err : goal.returns-in-Err
returns-in-Err c =
    let a = c.args in
    let R = restore a.section.now a.olds.now a.news.now a.first a.settings in
    let th = thread_of a.machine a.list.now a.registers.now in
    let h = sym c.find_all.ensures.0 ∙ ap verdict c.in-Err.is in
    let rows = thread_rows R a.image.now 0 (frames_of th) in
    ((rw c.number.ensures at c.refused.ensures) ∙ section_no R a.image.now th _ _ h rows a.rows.now, section-kept R a.image.now th _ _ h rows a.rows.now)
