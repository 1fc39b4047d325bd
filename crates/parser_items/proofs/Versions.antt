-- The item of version 1, by the bytes that a listing starts with.
use Prim.Native.Nat.{ℕ, suc, ◌≤◌}
use mathlib.Core.Path.{◌≡◌, refl, sym, ◌∙◌}
use mathlib.Core.Bool.{Bool, true, false, and-true, and-false}
use mathlib.Core.List.{List, [], ◌∷◌}
use native.Mathlib.Omega.{arith}
use borrow.Author.Tests.{le-leb, eq-eqb, ne_eqb, eqb-true}
use lib.ListN.{length}
use lib.Dec.{eqb}
use Rattle.std.specs.List.{starts_with}
use Rattle.listing.specs.Listing.{listed_old, stands}

eqb_sym : (a b : ℕ) → eqb a b ≡ eqb b a
eqb_sym a b = go (eqb b a) refl
  where
    go : (t : Bool) → eqb b a ≡ t → eqb a b ≡ t
    go true e = eq-eqb a b (sym (eqb-true b a e))
    go false e = ne_eqb a b (λ q. let z = sym (eq-eqb b a (sym q)) ∙ e in cc)

pub old_starts : (l : List ℕ) → starts_with eqb l (7 ∷ 1 ∷ []) ≡ listed_old l
unfolding listed_old stands
old_starts [] = refl
old_starts (x ∷ []) = and-false _
old_starts (x ∷ y ∷ l) =
    let h : 2 ≤ suc (suc (length l)) = omega arith in
    rw (eqb_sym 7 x, eqb_sym 1 y, le-leb 2 _ h, and-true)
