use mathlib.Core.Path.{ap}
use Rattle.stackmap.specs.Verdict.{verdict}
use mathlib.Core.Path.{sym, ◌∙◌}
use native.Mathlib.Omega.{arith}
use Rattle.relocate.specs.Restore.{restore}
use Rattle.replay.proofs.Replaying.{done_alike}
use Rattle.thread_call.proofs.Whole.{valid-accepted, blank_holds, blank_counted}
use Rattle.replay_frames.proofs.replay_part.Goals as goal

pub find_all-requires : goal.find_all-requires
find_all-requires c = (omega arith, c.gather.ensures.sorted, blank_holds _ _ 16384, blank_counted 16384)

pub replay_steps-requires : goal.replay_steps-requires
replay_steps-requires c =
    let a = c.args in
    let v = ap verdict c.in-Ok.is in
    let f = c.find_all.ensures in
    record {
      looked = record {
        section_right = valid-accepted a.s.now _ (sym v ∙ f.0);
        holds = c.requires.0;
        room = omega arith;
        most = omega arith;
        gathered = c.gather.ensures;
        found = f.1 _ v;
      };
      most_right = c.requires.2;
      fault_is = c.requires.3;
    }

pub returns-in-Err : goal.returns-in-Err
returns-in-Err c =
    let a = c.args in
    let R = restore a.s.now a.olds.now a.news.now a.first a.settings in
    let k = sym c.find_all.ensures.0 ∙ ap verdict c.in-Err.is in
    (done_alike R _ _ k a.t.now a.all a.i a.kept _ a.image.now (rw (c.refused.ensures, c.number.ensures) at c.alike.ensures), c.requires.1, omega arith)
