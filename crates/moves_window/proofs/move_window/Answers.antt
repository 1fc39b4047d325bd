use Prim.Native.Nat.{◌-◌}
use mathlib.Core.Path.{◌≡◌, ap}
use native.Mathlib.Omega.{arith}
use lib.ListN.{length, take, drop}
use Rattle.moves.specs.Slots.{State}
use Rattle.moves.proofs.Splice.{part_length, splice_mid}
use Rattle.moves_window.proofs.move_window.Goals as goal

pub settle_pairs-requires : goal.settle_pairs-requires
settle_pairs-requires c =
    let a = c.args in
    let e : length (take (a.end - a.off) (drop a.off a.image.now)) ≡ a.end - a.off = part_length a.image.now a.off (a.end - a.off) (omega arith) in
    (c.requires.2, c.requires.3, rw e c.requires.4, c.requires.5, rw e c.requires.6, c.requires.7)

pub returns : goal.returns
returns c =
    let o = c.settle_pairs.ensures in
    record {
      answer = o.answer;
      left = splice_mid c.args.image.now c.args.off (c.args.end - c.args.off) _ _ (ap (λ (w : State). w.window) o.left);
      registers_left = ap (λ (w : State). w.registers) o.left;
    }
