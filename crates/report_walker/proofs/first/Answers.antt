use mathlib.Core.Path.{refl, ap}
use Rattle.stackmap.specs.declared.Turn.{Turn}
use Rattle.report_walker.proofs.first.Goals as goal

pub returns : goal.returns
returns c =
    let q = c.requires in
    let t = c.start-turn.ensures in
    record {
      old_is = c.is_old-old.ensures;
      constants_are = c.u32_at.ensures;
      turn_next = ap (λ (x : Turn). x.next) t;
      turn_left = ap (λ (x : Turn). x.left) t;
      all_ahead = c.u32_at-2.ensures;
      none_passed = refl;
      begins = q.1;
    }
