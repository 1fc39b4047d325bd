-- The chain of refusals: where it stands after each test, and what acceptance tells.
use Prim.Native.Nat.{ℕ, zero, suc, ◌≤◌, ◌<◌}
use mathlib.Core.Path.{◌≡◌, refl, sym, ◌∙◌}
use mathlib.Core.Bool.{Bool, true, false}
use mathlib.Core.List.{List}
use native.Mathlib.Omega.{arith}
use borrow.Author.Tests.{leb-true, eqb-true, le-leb, lt-leb, eq-eqb, ne_eqb}
use lib.ListN.{length, get_or}
use Rattle.flat.specs.Places.{offsets_right}
use Rattle.flat.proofs.Steps.{and_true}
use Rattle.flat_check.specs.Check.{need, version_right, ranges_right, reserved_clear, flat_check, Accepted, ask}

-- The check after each test.

module _ (s : List ℕ) (l : 32 ≤ length s) (m : length s ≤ 16777216) where
  pub at-version : flat_check s ≡ need (version_right s) 37 (need (offsets_right s) 38 (need (ranges_right s) 39 (need (reserved_clear s) 40 0)))
  unfolding flat_check need
  at-version = rw (le-leb 32 (length s) l, le-leb (length s) 16777216 m)

  pub at_offsets : get_or s 0 0 ≡ 2 → flat_check s ≡ need (offsets_right s) 38 (need (ranges_right s) 39 (need (reserved_clear s) 40 0))
  unfolding need
  at_offsets v = at-version ∙ rw (eq-eqb (get_or s 0 0) 2 v)

  pub at_ranges : get_or s 0 0 ≡ 2 → offsets_right s ≡ true → flat_check s ≡ need (ranges_right s) 39 (need (reserved_clear s) 40 0)
  unfolding need
  at_ranges v o = at_offsets v ∙ rw o

  pub at_reserved : get_or s 0 0 ≡ 2 → offsets_right s ≡ true → ranges_right s ≡ true → flat_check s ≡ need (reserved_clear s) 40 0
  unfolding need
  at_reserved v o r = at_ranges v o ∙ rw r

  -- Its answer at each.

  pub wrong_version : (get_or s 0 0 ≡ 2 → ⊥) → 37 ≡ flat_check s
  unfolding need
  wrong_version h = sym (at-version ∙ rw (ne_eqb (get_or s 0 0) 2 h))

  pub wrong_offsets : get_or s 0 0 ≡ 2 → offsets_right s ≡ false → 38 ≡ flat_check s
  unfolding need
  wrong_offsets v e = sym (at_offsets v ∙ rw e)

  pub wrong_ranges : get_or s 0 0 ≡ 2 → offsets_right s ≡ true → ranges_right s ≡ false → 39 ≡ flat_check s
  unfolding need
  wrong_ranges v o e = sym (at_ranges v o ∙ rw e)

  pub wrong_reserved : get_or s 0 0 ≡ 2 → offsets_right s ≡ true → ranges_right s ≡ true → reserved_clear s ≡ false → 40 ≡ flat_check s
  unfolding need
  wrong_reserved v o r e = sym (at_reserved v o r ∙ rw e)

  pub all_right : get_or s 0 0 ≡ 2 → offsets_right s ≡ true → ranges_right s ≡ true → reserved_clear s ≡ true → 0 ≡ flat_check s
  unfolding need
  all_right v o r e = sym (at_reserved v o r ∙ rw e)

pub too_short : (s : List ℕ) → length s < 32 → 36 ≡ flat_check s
unfolding flat_check need
too_short s h = rw (lt-leb 32 (length s) h)

pub too_long : (s : List ℕ) → 16777216 < length s → 36 ≡ flat_check s
unfolding flat_check need
too_long s h = rw (le-leb 32 (length s) (omega arith), lt-leb (length s) 16777216 h)

-- What acceptance tells.

need-told : (b : Bool) (n k : ℕ) → 0 < n → need b n k ≡ 0 → (b ≡ true) × (k ≡ 0)
unfolding need
need-told true n k p h = (refl, h)
need-told false n k p h = absurd (omega arith)

pub record Told (s : List ℕ) : Type 0 where
  pub least : 32 ≤ length s
  pub most : length s ≤ 16777216
  pub version : get_or s 0 0 ≡ 2
  pub offsets : offsets_right s ≡ true
  pub ranges : ranges_right s ≡ true
  pub reserved : reserved_clear s ≡ true

pub accepted-told : (s : List ℕ) → Accepted s → Told s
unfolding flat_check
accepted-told s h =
    let h₁ = need-told _ 36 _ (omega arith) h in
    let h₂ = need-told _ 37 _ (omega arith) h₁.1 in
    let h₃ = need-told _ 38 _ (omega arith) h₂.1 in
    let h₄ = need-told _ 39 _ (omega arith) h₃.1 in
    let h₅ = need-told _ 40 _ (omega arith) h₄.1 in
    let l = and_true _ _ h₁.0 in
    record {
      least = leb-true _ _ l.0;
      most = leb-true _ _ l.1;
      version = eqb-true _ _ h₂.0;
      offsets = h₃.0;
      ranges = h₄.0;
      reserved = h₅.0;
    }

-- A question on a section that is refused, and on one that is not.

pub ask-refused : {A : Type 0} (refused : ℕ → A) (answer : A) (n m : ℕ) → n ≡ m → (n ≡ 0 → ⊥) → refused n ≡ ask refused answer m
unfolding ask
ask-refused refused answer n zero e h = absurd (h e)
ask-refused refused answer n (suc m) e h = rw e

pub ask-accepted : {A : Type 0} (refused : ℕ → A) (answer : A) (n m : ℕ) → n ≡ m → n ≡ 0 → answer ≡ ask refused answer m
unfolding ask
ask-accepted refused answer n m e h = rw (← e, h)
