use Prim.Native.Nat.{◌-◌}
use mathlib.Core.Path.{◌≡◌}
use native.Mathlib.Omega.{arith}
use lib.ListN.{length, take, drop}
use Rattle.moves.proofs.Splice.{part_length}
use Rattle.moves_window.proofs.judge_window.Goals as goal

pub judge-requires : goal.judge-requires
judge-requires c =
    let a = c.args in
    let e : length (take (a.end - a.off) (drop a.off a.image.now)) ≡ a.end - a.off = part_length a.image.now a.off (a.end - a.off) (omega arith) in
    (c.requires.2, c.requires.3, rw e c.requires.4, c.requires.5, rw e c.requires.6, c.requires.7)

pub returns : goal.returns
returns c = c.judge.ensures.answer
