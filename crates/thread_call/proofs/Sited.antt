-- An accepted frame has an extent.
use Prim.Native.Nat.{ℕ, ◌+◌, ◌-◌, ◌^◌}
use mathlib.Core.Path.{◌≡◌}
use mathlib.Core.Bool.{true}
use mathlib.Core.List.{List}
use native.Mathlib.Omega.{arith}
use borrow.Author.Tests.{leb-true, eq-eqb}
use lib.Dec.{leb}
use lib.ListN.{length}
use Rattle.stackmap.specs.Check.{Accepted}
use Rattle.stackmap.proofs.Tests.{and_true}
use Rattle.relocate.specs.Restore.{Restore}
use Rattle.relocate.specs.Stopped.{Stopped, registers_right}
use Rattle.relocate.specs.Plan.{image_right}
use Rattle.relocate.specs.Relocation.{answer}
use Rattle.relocate.proofs.Planned.{planned}
use Rattle.relocate.proofs.Demand.{accepts}
use Rattle.thread.specs.Code.{Sited}

pub accepted-sited : (R : Restore) (im : List ℕ) (f : Stopped) → Accepted R.section → image_right R.first (length im) ≡ true
    → (answer R im f).number ≡ 0 → Sited R.section f
unfolding image_right registers_right
accepted-sited R im f k i z =
    let a = accepts R (length R.section) k im f z in
    let p = planned R (length im) f (length R.section) k a.off a.size a.pairs a.is_window in
    let m = leb-true (R.first + length im) (2 ^ 64 - 1) (and_true (leb (length im) 1048576) (leb (R.first + length im) (2 ^ 64 - 1)) i).1 in
    record { right = eq-eqb _ _ p.registers; entry = p.entry; one = p.one; known = p.known; ends = omega (arith, p.high) }
