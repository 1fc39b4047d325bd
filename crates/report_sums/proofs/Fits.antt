-- The test of a sum, without the sum.
use Prim.Native.Nat.{ℕ, ◌+◌, ◌-◌, ◌≤◌, ◌<◌}
use mathlib.Core.Path.{◌≡◌, refl, sym, ◌∙◌}
use mathlib.Core.Bool.{Bool, true, false}
use native.Mathlib.Omega.{arith}
use borrow.Author.Tests.{leb-true, leb-false, le-leb, lt-leb}
use lib.Dec.{leb}
use Rattle.report.specs.Totals.{total_most}

pub room-left : (a b : ℕ) → a ≤ total_most → leb b (total_most - a) ≡ leb (a + b) total_most
room-left a b h = go (leb (a + b) total_most) refl
  where
    go : (t : Bool) → leb (a + b) total_most ≡ t → leb b (total_most - a) ≡ leb (a + b) total_most
    go true e = let k : a + b ≤ total_most = leb-true _ _ e in le-leb b (total_most - a) (omega arith) ∙ sym e
    go false e = let k : total_most < a + b = leb-false _ _ e in lt-leb b (total_most - a) (omega arith) ∙ sym e
