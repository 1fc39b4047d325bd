-- The places of a store: those that are taken, what is found in them, and what a make and a retire do to them.
use Prim.Native.Nat.{ℕ, zero, suc, ◌-◌, ◌≤◌}
use mathlib.Core.Path.{◌≡◌, refl, sym, ap}
use mathlib.Core.Bool.{Bool, true, false, cond, ◌&&◌, ◌||◌}
use mathlib.Core.Option.{none, some}
use mathlib.Core.List.Permᴰ
use mathlib.Core.List.{List, [], ◌∷◌, Permᴰ}
use native.Mathlib.Omega.{arith}
use native.Mathlib.Decide.{ℕ_discrete}
use borrow.Author.Tests.{eq-eqb, ne_eqb, lt-ltb, le-leb}
use lib.Dec.{eqb, ltb, leb, leb-suc-suc}
use lib.ListN.{length, replicate}
use Rattle.editions.specs.declared.Edition.{Edition}
use Rattle.editions.specs.Calls.{settings_right, number_most}
use Rattle.editions.specs.Store.{free, holds, look, without, room, kept}
use Rattle.editions.specs.History.{but_not, find}

abbrev pub taken : List Edition → List Edition
taken xs = but_not 0 xs

-- what a make puts into a place
abbrev pub Right : Edition → Type 0
Right x = (1 ≤ x.number) × (x.number ≤ number_most) × (settings_right x.settings ≡ true)

-- each place is free or right: none is damaged
abbrev pub Sound : List Edition → Type 0
Sound [] = Unit {0}
Sound (x ∷ xs) = ((x.number ≡ 0 → ⊥) → Right x) × Sound xs

right-holds : (e : ℕ) (x : Edition) → Right x → holds e x ≡ eqb x.number e
unfolding holds
right-holds e x r = rw (le-leb _ _ r.0, le-leb _ _ r.1, r.2) (go (eqb x.number e))
  where
    go : (t : Bool) → (t && true && true && true) ≡ t
    go true = refl
    go false = refl

free-holds : (e : ℕ) (x : Edition) → x.number ≡ 0 → holds e x ≡ false
unfolding holds
free-holds e x z = go (eqb x.number e)
  where
    go : (t : Bool) → (t && leb 1 x.number && leb x.number number_most && settings_right x.settings) ≡ false
    go true = rw z refl
    go false = refl

-- the store finds what stands in a taken place
pub look-taken : (e : ℕ) (xs : List Edition) → Sound xs → look e xs ≡ find e (taken xs)
unfolding look find but_not
look-taken e [] d = refl
look-taken e (x ∷ xs) d = go (look-taken e xs d.1) (ℕ_discrete x.number 0)
  where
    go : look e xs ≡ find e (taken xs) → Dec (x.number ≡ 0)
        → cond (holds e x) (some x.settings) (look e xs) ≡ find e (cond (eqb x.number 0) (taken xs) (x ∷ taken xs))
    go rest (yes z) = rw (free-holds e x z, eq-eqb _ _ z, rest)
    go rest (no z) = rw (right-holds e x (d.0 z), ne_eqb _ _ z, rest)

taken-most : (xs : List Edition) → length (taken xs) ≤ length xs
unfolding but_not
taken-most [] = omega arith
taken-most (x ∷ xs) = go (taken-most xs) (eqb x.number 0)
  where
    go : length (taken xs) ≤ length xs → (t : Bool) → length (cond t (taken xs) (x ∷ taken xs)) ≤ suc (length xs)
    go rest true = omega arith
    go rest false = omega arith

-- there is room where fewer are taken than there are places
pub room-is : (xs : List Edition) → room xs ≡ ltb (length (taken xs)) (length xs)
unfolding room but_not
room-is [] = refl
room-is (x ∷ xs) = go (room-is xs) (eqb x.number 0) refl
  where
    go : room xs ≡ ltb (length (taken xs)) (length xs) → (t : Bool) → eqb x.number 0 ≡ t
        → (eqb x.number 0 || room xs) ≡ ltb (length (cond t (taken xs) (x ∷ taken xs))) (suc (length xs))
    go rest true e = rw e (sym (lt-ltb (length (taken xs)) (suc (length xs)) (omega (arith, taken-most xs))))
    go rest false e = rw (e, rest) (sym (leb-suc-suc (suc (length (taken xs))) (length xs)))

-- A make.

pub kept-length : (y : Edition) (xs : List Edition) → length (kept y xs) ≡ length xs
unfolding kept
kept-length y [] = refl
kept-length y (x ∷ xs) = go (kept-length y xs) (eqb x.number 0)
  where
    go : length (kept y xs) ≡ length xs → (t : Bool) → length (cond t (y ∷ xs) (x ∷ kept y xs)) ≡ suc (length xs)
    go rest true = refl
    go rest false = ap suc rest

pub kept_sound : (y : Edition) (xs : List Edition) → Right y → Sound xs → Sound (kept y xs)
unfolding kept
kept_sound y [] r d = tt
kept_sound y (x ∷ xs) r d = go (kept_sound y xs r d.1) (eqb x.number 0)
  where
    go : Sound (kept y xs) → (t : Bool) → Sound (cond t (y ∷ xs) (x ∷ kept y xs))
    go rest true = ((λ n. r), d.1)
    go rest false = (d.0, rest)

pub kept-taken : (y : Edition) (xs : List Edition) → (y.number ≡ 0 → ⊥) → room xs ≡ true → Permᴰ (taken (kept y xs)) (y ∷ taken xs)
unfolding kept but_not room
kept-taken y [] n h = absurd (let z : ◌≡◌ {A = ℕ} 0 1 = cc in omega arith)
kept-taken y (x ∷ xs) n h = go (kept-taken y xs n) (eqb x.number 0) refl h
  where
    go : (room xs ≡ true → Permᴰ (taken (kept y xs)) (y ∷ taken xs)) → (t : Bool) → eqb x.number 0 ≡ t → (t || room xs) ≡ true
        → Permᴰ (taken (cond t (y ∷ xs) (x ∷ kept y xs))) (y ∷ cond t (taken xs) (x ∷ taken xs))
    go rest true e k = rw (ne_eqb _ _ n) (Permᴰ.refl (y ∷ taken xs))
    go rest false e k = rw e (Permᴰ.trans (Permᴰ.cons refl (rest k)) (Permᴰ.swap refl refl))

-- A retire.

pub without-length : (e : ℕ) (xs : List Edition) → length (without e xs) ≡ length xs
unfolding without
without-length e [] = refl
without-length e (x ∷ xs) = ap suc (without-length e xs)

pub without_sound : (e : ℕ) (xs : List Edition) → Sound xs → Sound (without e xs)
unfolding without
without_sound e [] d = tt
without_sound e (x ∷ xs) d = (go (holds e x), without_sound e xs d.1)
  where
    go : (t : Bool) → ((cond t free x).number ≡ 0 → ⊥) → Right (cond t free x)
    go true n = absurd (n refl)
    go false n = d.0 n

pub without-taken : (e : ℕ) (xs : List Edition) → Sound xs → taken (without e xs) ≡ but_not e (taken xs)
unfolding without but_not
without-taken e [] d = refl
without-taken e (x ∷ xs) d = go (without-taken e xs d.1) (ℕ_discrete x.number 0) (ℕ_discrete x.number e)
  where
    go : taken (without e xs) ≡ but_not e (taken xs) → Dec (x.number ≡ 0) → Dec (x.number ≡ e)
        → cond (eqb (cond (holds e x) free x).number 0) (taken (without e xs)) (cond (holds e x) free x ∷ taken (without e xs))
        ≡ but_not e (cond (eqb x.number 0) (taken xs) (x ∷ taken xs))
    go rest (yes y) z = rw (free-holds e x y, eq-eqb x.number 0 y, rest)
    go rest (no y) (yes z) = rw (right-holds e x (d.0 y), eq-eqb x.number e z, ne_eqb x.number 0 y, rest, eq-eqb x.number e z)
    go rest (no y) (no z) = rw (right-holds e x (d.0 y), ne_eqb x.number e z, ne_eqb x.number 0 y, rest, ne_eqb x.number e z)

-- The empty store.

pub none-taken : (n : ℕ) → taken (replicate n free) ≡ []
unfolding but_not
none-taken zero = refl
none-taken (suc n) = none-taken n

pub none_damaged : (n : ℕ) → Sound (replicate n free)
none_damaged zero = tt
none_damaged (suc n) = ((λ z. absurd (z refl)), none_damaged n)
