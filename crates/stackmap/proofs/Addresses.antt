-- Refusal 8, which version 1 does not have.
use Prim.Native.Nat.{ℕ, ◌+◌, ◌-◌, ◌^◌, ◌≤◌, ◌<◌}
use mathlib.Core.Path.{◌≡◌, refl, sym}
use mathlib.Core.Bool.{Bool, true, false, true≢false}
use mathlib.Core.List.{List}
use lib.Dec.{leb}
use borrow.Author.Tests.{le-leb, leb-true}
use native.Mathlib.Omega.{arith}
use Rattle.stackmap.specs.Record.{address_right}
use Rattle.stackmap.specs.Walk.{owner_by}

pub address-fits : (old : Bool) (a : ℕ) → a ≤ 2 ^ 64 - 1 → address_right old a ≡ true
unfolding address_right
address-fits true a h = refl
address-fits false a h = le-leb _ _ h

-- in version 3 what passes fits
pub right-fits : (old : Bool) (a : ℕ) → old ≡ false → address_right old a ≡ true → a ≤ 2 ^ 64 - 1
unfolding address_right
right-fits true a e h = absurd (true≢false e)
right-fits false a e h = leb-true _ _ h

-- where the owner's address is 0 in version 1, its records would pass the test too
pub same_test : (old : Bool) (a offset : ℕ) → (old ≡ true → a ≡ 0) → offset < 2 ^ 32 → address_right old (a + offset) ≡ leb (a + offset) (2 ^ 64 - 1)
unfolding address_right
same_test true a offset h k = let z = h refl in sym (le-leb (a + offset) (2 ^ 64 - 1) (omega arith))
same_test false a offset h k = refl

pub owner_zero : (old : Bool) (s : List ℕ) (i : ℕ) → old ≡ true → (owner_by old s i).function.address ≡ 0
unfolding owner_by
owner_zero true s i h = refl
owner_zero false s i h = absurd (true≢false (sym h))
