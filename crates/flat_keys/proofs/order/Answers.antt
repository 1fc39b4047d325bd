use Prim.Native.Nat.{ℕ}
use mathlib.Core.Path.{◌≡◌}
use native.Mathlib.Omega.{arith}
use Rattle.std.proofs.Common.{length, length-take, length-append, length-drop}
use Rattle.std.proofs.Math.ListN.{take, drop}
use Rattle.flat_check.proofs.Accept.{accepted_least, accepted_arranged}
use Rattle.flat_keys.proofs.Filling.{fill_front, keyed_sorted}
use Rattle.flat_keys.proofs.order.Goals as goal

pub fill-requires : goal.fill-requires
fill-requires c =
    let a = accepted_arranged _ c.requires.0 in
    (accepted_least _ c.requires.0, omega (arith, length-take {A = ℕ}, c.num_records-records.ensures, c.min-count.ensures), omega (arith, length-take {A = ℕ}, c.min-count.ensures))

pub returns : goal.returns
returns c =
    let m : length (take c.min-count.result c.args.keys.now) ≡ c.min-count.result = omega (arith, length-take {A = ℕ}, c.min-count.ensures) in
    let f = fill_front _ _ (drop c.min-count.result c.args.keys.now) _ (rw m at c.fill.ensures.1) (omega (arith, c.fill.ensures.0)) in (
      omega (arith, c.sort.ensures.0.same_length, length-append {A = ℕ}, length-drop {A = ℕ}, c.fill.ensures.0, c.min-count.ensures),
      omega (arith, c.min-count.ensures),
      keyed_sorted _ _ _ _ f c.sort.ensures.0 c.sort.ensures.1,
    )
