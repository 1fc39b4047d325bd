-- Where a slot is: whole numbers without wrapping.
use Prim.Native.Nat.{ℕ, ◌+◌, ◌*◌, ◌-◌, ◌^◌, ◌≤◌, ◌<◌}
use mathlib.Core.Path.{◌≡◌, refl, sym, ap, ◌∙◌}
use mathlib.Core.Bool.{Bool, true, false, cond, ◌&&◌, and-false}
use mathlib.Core.Logic.{◌⊎◌, inl, inr}
use mathlib.Core.Option.{Option, none, some}
use native.Mathlib.Omega.{arith}
use borrow.Author.Tests.{lt-ltb, le-ltb, le-leb, lt-leb, eq-eqb, ne_eqb, leb-true, leb-false}
use lib.Dec.{leb}
use Rattle.stackmap.specs.Section.{Location}
use Rattle.moves.specs.Pointers.{or_zero}
use Rattle.relocate.specs.declared.Cursor.{Cursor}
use Rattle.relocate.specs.Limits.{frame_pointer}
use Rattle.relocate.specs.Statepoint.{pointers_in, register_of, slot_address, wholly, is_register, slots_inside}
use Rattle.stackmap.specs.Section.{as_offset}
use Rattle.relocate.specs.Code.{number_of, slot_in, position_in, place_in}

pub place_past : (p k n : ℕ) → n < p + 8 * k → none ≡ place_in p k n
unfolding place_in
place_past p k n h = rw (lt-leb (p + 8 * k) n h)

pub place_here : (p k n : ℕ) → p + 8 * k ≤ n → some p ≡ place_in p k n
unfolding place_in
place_here p k n h = rw (le-leb (p + 8 * k) n h)

-- An offset's 32 bits o are x too much: nothing where it goes up, and 2 ^ 32 where it goes down.

abbrev pub Excess : ℕ → ℕ → Type 0
Excess o x = ((o < 2 ^ 31) × (x ≡ 0)) ⊎ ((2 ^ 31 ≤ o) × (o < 2 ^ 32) × (x ≡ 2 ^ 32))

leb_same : (x y x' y' : ℕ) → (x ≤ y → x' ≤ y') → (x' ≤ y' → x ≤ y) → leb x y ≡ leb x' y'
leb_same x y x' y' f g = go (leb x y) refl (leb x' y') refl
  where
    go : (s : Bool) → leb x y ≡ s → (t : Bool) → leb x' y' ≡ t → leb x y ≡ leb x' y'
    go true d true e = d ∙ sym e
    go false d false e = d ∙ sym e
    go true d false e = let l = f (leb-true x y d) in absurd (omega (arith, leb-false x' y' e))
    go false d true e = let l = g (leb-true x' y' e) in absurd (omega (arith, leb-false x y d))

-- by the register r, the stack pointer g, the offset's bits o, k slots and the n bytes of the extent
module _ (r g o k n : ℕ) where
  -- the first slot by sums alone
  by_sums : ℕ → Option ℕ
  by_sums x = cond (leb (g + x) (r + o) && leb (r + o + 8 * k) (g + n + x)) (some (r + o - (g + x))) none

  below : (x : ℕ) → r + o < g + x → none ≡ by_sums x
  unfolding by_sums
  below x h = rw (lt-leb (g + x) (r + o) h)

  far : (x : ℕ) → g + n + x < r + o + 8 * k → none ≡ by_sums x
  unfolding by_sums
  far x h = rw (lt-leb (r + o + 8 * k) (g + n + x) h, and-false (leb (g + x) (r + o)))

  there : (x p : ℕ) → g + x + p ≡ r + o → place_in p k n ≡ by_sums x
  unfolding by_sums place_in
  there x p e =
      let q : r + o - (g + x) ≡ p = omega arith in
      rw (le-leb (g + x) (r + o) (omega arith), leb_same (p + 8 * k) n (r + o + 8 * k) (g + n + x) (λ h. omega arith) (λ h. omega arith), q)

  by_address : (x a : ℕ) → r + o ≡ a + x → by_sums x ≡ cond (leb g a && leb (a + 8 * k) (g + n)) (some (a - g)) none
  unfolding by_sums
  by_address x a e =
      let q : r + o - (g + x) ≡ a - g = omega arith in
      rw (
        leb_same (g + x) (r + o) g a (λ h. omega arith) (λ h. omega arith),
        leb_same (r + o + 8 * k) (g + n + x) (a + 8 * k) (g + n) (λ h. omega arith) (λ h. omega arith),
        q,
      )

  -- the address that an offset up or down leads to is the one by sums
  sums-are : (x : ℕ) → Excess o x → by_sums x ≡ position_in r g o k n
  unfolding position_in as_offset
  sums-are x (inl h) = rw (h.1, lt-ltb o (2 ^ 31) h.0) (by_address 0 (r + o) (omega arith))
  sums-are x (inr h) = rw (h.2, le-ltb o (2 ^ 31) h.0) (low (leb (2 ^ 32 - o) r) refl)
    where
      low : (t : Bool) → leb (2 ^ 32 - o) r ≡ t
          → by_sums (2 ^ 32)
          ≡ cond (wholly g n k (cond t (some (r - (2 ^ 32 - o))) none)) (some (or_zero (cond t (some (r - (2 ^ 32 - o))) none) - g)) none
      low true e = let l : 2 ^ 32 - o ≤ r = leb-true _ _ e in let m = h.1 in by_address (2 ^ 32) (r - (2 ^ 32 - o)) (omega arith)
      low false e = let l : r < 2 ^ 32 - o = leb-false _ _ e in sym (below (2 ^ 32) (omega arith))

  pub position_below : (x : ℕ) → Excess o x → r + o < g + x → none ≡ position_in r g o k n
  position_below x e h = below x h ∙ sums-are x e

  pub position_far : (x : ℕ) → Excess o x → g + n + x < r + o + 8 * k → none ≡ position_in r g o k n
  position_far x e h = far x h ∙ sums-are x e

  pub position_there : (x p : ℕ) → Excess o x → g + x + p ≡ r + o → place_in p k n ≡ position_in r g o k n
  position_there x p e h = there x p h ∙ sums-are x e

-- a location's first slot: a register, or in memory by the register that it names
module _ (old : Bool) (f : Cursor) (n : ℕ) (l : Location) where
  abbrev k : ℕ
  k = pointers_in old l.size

  pub slot-register : l.kind ≡ 1 → some (4294967296 + 8 * l.register) ≡ slot_in old f n l
  unfolding slot_in slots_inside number_of is_register
  slot-register e = rw (eq-eqb l.kind 1 e)

  slot_position : (l.kind ≡ 1 → ⊥) → position_in (register_of f l) f.sp l.offset k n ≡ slot_in old f n l
  unfolding slot_in slots_inside number_of is_register slot_address position_in
  slot_position h = rw (ne_eqb l.kind 1 h)

  module _ (h : l.kind ≡ 1 → ⊥) where
    pub slot-frame : l.register ≡ frame_pointer f.machine → position_in f.fp f.sp l.offset k n ≡ slot_in old f n l
    unfolding register_of
    slot-frame e = let q : register_of f l ≡ f.fp = rw (eq-eqb l.register (frame_pointer f.machine) e) in ap (λ (v : ℕ). position_in v f.sp l.offset k n) (sym q) ∙ slot_position h

    pub slot-stack : (l.register ≡ frame_pointer f.machine → ⊥) → position_in f.sp f.sp l.offset k n ≡ slot_in old f n l
    unfolding register_of
    slot-stack e = let q : register_of f l ≡ f.sp = rw (ne_eqb l.register (frame_pointer f.machine) e) in ap (λ (v : ℕ). position_in v f.sp l.offset k n) (sym q) ∙ slot_position h
