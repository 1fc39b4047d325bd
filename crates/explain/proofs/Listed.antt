-- The pointers that an accepted frame lists.
use Prim.Native.Nat.{ℕ}
use mathlib.Core.Path.{◌≡◌, refl, sym, ap, ◌∙◌, subst}
use mathlib.Core.Bool.{true}
use mathlib.Core.List.{List, [], ◌∷◌, ◌++◌, map, map-append, flatten, Memᴰ}
use native.Mathlib.Omega.{arith}
use borrow.Author.Tests.{eqb-true, eq-eqb}
use lib.ListN.{length}
use Rattle.stackmap.specs.Verdict.{Valid}
use Rattle.stackmap.specs.Check.{section_check}
use Rattle.moves.specs.Slots.{Slot, memory, register, same}
use Rattle.moves.specs.Pointers.{Pointer, null, slots}
use Rattle.moves.proofs.Words.{from_image}
use Rattle.relocate.specs.Restore.{Restore}
use Rattle.relocate.specs.Stopped.{Stopped, cursor}
use Rattle.relocate.specs.Relocation.{answer, ListedPointer}
use Rattle.relocate.proofs.Planned.{Planned, planned, window-lists, listed-stands}
use Rattle.relocate.proofs.Demand.{Passed, accepts, accepted-section}
use Rattle.explain.specs.Explain.{addressed, pointer_at, listed}

pub same_true : (x y : Slot) → same x y ≡ true → x ≡ y
unfolding same
same_true (memory a) (memory b) h = ap memory (eqb-true a b h)
same_true (memory a) (register r) h = absurd (let z : ◌≡◌ {A = ℕ} 0 1 = cc in omega arith)
same_true (register r) (memory a) h = absurd (let z : ◌≡◌ {A = ℕ} 0 1 = cc in omega arith)
same_true (register r) (register q) h = ap register (eqb-true r q h)

pub same_self : (x : Slot) → same x x ≡ true
unfolding same
same_self (memory a) = eq-eqb a a refl
same_self (register r) = eq-eqb r r refl

addressed-is : (sp : ℕ) (x : Slot) → addressed sp x ≡ from_image sp x
addressed-is sp (memory a) = refl
addressed-is sp (register r) = refl

flatten_map : (g : Pointer → Pointer) (pss : List (List Pointer)) → flatten (map (map g) pss) ≡ map g (flatten pss)
unfolding flatten
flatten_map g [] = refl
flatten_map g (ps ∷ pss) = ap (λ (l : List Pointer). map g ps ++ l) (flatten_map g pss) ∙ sym (map-append g ps (flatten pss))

module _ (R : Restore) (im : List ℕ) (f : Stopped) (yes : (answer R im f).number ≡ 0) where
  k : section_check R.section ≡ Valid (length R.section)
  k = accepted-section R im f yes

  a : Passed R (length R.section) k im f
  a = accepts R (length R.section) k im f yes

  q : Planned R (length im) f a.off a.size a.pairs
  q = planned R (length im) f (length R.section) k a.off a.size a.pairs a.is_window

  listed-are : flatten (listed R f) ≡ map (pointer_at (cursor f).sp) (flatten a.pairs)
  unfolding listed
  listed-are = rw (q.one, ← q.pairs-are) (flatten_map (pointer_at (cursor f).sp) a.pairs)

  -- a listed pointer is one of the record's
  pub lists : (b d : Slot) → Memᴰ (slots b d) (flatten (listed R f)) → ListedPointer R.section f b d
  lists b d m = go (mathlib.Core.List.Memᴰ.of_map (pointer_at (cursor f).sp) (flatten a.pairs) (subst (λ (l : List Pointer). Memᴰ (slots b d) l) listed-are m))
    where
      on : (p : Pointer) → Memᴰ p (flatten a.pairs) → pointer_at (cursor f).sp p ≡ slots b d → ListedPointer R.section f b d
      on null n e = absurd (let z : ◌≡◌ {A = ℕ} 0 1 = cc in omega arith)
      on (slots b' d') n e =
          let x : addressed (cursor f).sp b' ≡ b = cc in
          let y : addressed (cursor f).sp d' ≡ d = cc in
          let l = window-lists R (length im) f a.off a.size a.pairs q b' d' n in
          let x' : from_image (cursor f).sp b' ≡ b = sym (addressed-is (cursor f).sp b') ∙ x in
          let y' : from_image (cursor f).sp d' ≡ d = sym (addressed-is (cursor f).sp d') ∙ y in
          subst (λ (z : Slot). ListedPointer R.section f b z) y' (subst (λ (z : Slot). ListedPointer R.section f z (from_image (cursor f).sp d')) x' l)

      go : (p : Pointer) × Memᴰ p (flatten a.pairs) × (pointer_at (cursor f).sp p ≡ slots b d) → ListedPointer R.section f b d
      go r = on r.0 r.1 r.2

  pub is-listed : (b d : Slot) → ListedPointer R.section f b d → Memᴰ (slots b d) (flatten (listed R f))
  is-listed b d l =
      let v = listed-stands R (length im) f a.off a.size a.pairs q b d l in
      let sp = (cursor f).sp in
      let x : addressed sp v.base ≡ b = addressed-is sp v.base ∙ sym v.base_is in
      let y : addressed sp v.derived ≡ d = addressed-is sp v.derived ∙ sym v.derived_is in
      let m : Memᴰ (slots (addressed sp v.base) (addressed sp v.derived)) (map (pointer_at sp) (flatten a.pairs)) = mathlib.Core.List.Memᴰ.map (pointer_at sp) v.member in
      subst (λ (l₁ : List Pointer). Memᴰ (slots b d) l₁) (sym listed-are)
      (subst (λ (z : Slot). Memᴰ (slots b z) (map (pointer_at sp) (flatten a.pairs))) y
      (subst (λ (z : Slot). Memᴰ (slots z (addressed sp v.derived)) (map (pointer_at sp) (flatten a.pairs))) x m))
