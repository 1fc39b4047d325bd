-- What the rows of a frame tell of each slot.
use Prim.Native.Nat.{ℕ, suc}
use mathlib.Core.Path.{◌≡◌, refl, sym, ap, ◌∙◌, subst}
use mathlib.Core.Bool.{Bool, true, false, not, ◌&&◌, true≢false}
use mathlib.Core.Logic.{◌⊎◌, inl, inr, ⊎_elim}
use mathlib.Core.Option.{Option, none, some}
use mathlib.Core.List.Memᴰ
use mathlib.Core.List.{List, [], ◌∷◌, ◌++◌, map, flatten, Memᴰ}
use native.Mathlib.Omega.{arith}
use borrow.Author.Tests.{eq-eqb}
use lib.Dec.{eqb}
use lib.ListN.{get_or, take, drop}
use Rattle.moves.specs.Slots.{Slot, memory, register}
use Rattle.moves.specs.Pointers.{Pointer, null, slots}
use Rattle.relocate.specs.Restore.{Restore}
use Rattle.relocate.specs.Stopped.{Stopped}
use Rattle.relocate.specs.Relocation.{answer}
use Rattle.explain.specs.declared.Reason.{Reason}
use Rattle.explain.specs.declared.Reason.TheVariants.{Unlisted, OnlyBase, NullBase, Moved, Refused}
use Rattle.explain.specs.Explain.{Hit, lowest_pair, listed, derives, has_base, old_base, moved_by, or_else, still, by_hit, accepted, explained}
use Rattle.explain.specs.Rows.{sort_of, place_of, reason_numbers, slot_row, pointer_row, rows_from, frame_rows}
use Rattle.explain.proofs.Hits.{Misses, pair-some, pair-none}
use Rattle.explain.proofs.Listed.{same_true, same_self}
use Rattle.explain_laws.specs.Tells.{HasBase, HasDerived, RowTells, Unnamed, RowsTell}

-- A slot by its sort and its place.

slot-by : (x y : Slot) → sort_of x ≡ sort_of y → place_of x ≡ place_of y → x ≡ y
slot-by (memory a) (memory b) s p = ap memory p
slot-by (memory a) (register r) s p = absurd (omega arith)
slot-by (register r) (memory a) s p = absurd (omega arith)
slot-by (register r) (register q) s p = ap register p

sort_some : (x : Slot) → 0 ≡ sort_of x → ⊥
sort_some (memory a) e = omega arith
sort_some (register r) e = omega arith

-- The numbers of a row.

reason_front : (r : Reason) (l : List ℕ) → take 4 (reason_numbers r ++ l) ≡ reason_numbers r
reason_front Unlisted l = refl
reason_front OnlyBase l = refl
reason_front NullBase l = refl
reason_front (Moved p o n) l = refl
reason_front (Refused n p) l = refl

reason_alone : (r : Reason) → take 4 (reason_numbers r) ≡ reason_numbers r
reason_alone Unlisted = refl
reason_alone OnlyBase = refl
reason_alone NullBase = refl
reason_alone (Moved p o n) = refl
reason_alone (Refused n p) = refl

-- past the four of a reason
past : (r : Reason) (l : List ℕ)
    → (get_or (reason_numbers r ++ l) 4 0 ≡ get_or l 0 0) × (get_or (reason_numbers r ++ l) 5 0 ≡ get_or l 1 0) × (get_or (reason_numbers r ++ l) 6 0 ≡ get_or l 2 0) × (drop 7 (reason_numbers r ++ l) ≡ drop 3 l)
past Unlisted l = (refl, refl, refl, refl)
past OnlyBase l = (refl, refl, refl, refl)
past NullBase l = (refl, refl, refl, refl)
past (Moved p o n) l = (refl, refl, refl, refl)
past (Refused n p) l = (refl, refl, refl, refl)

module _ (R : Restore) (im : List ℕ) (f : Stopped) (k : ℕ) where
  -- A row is one of a pointer, and each pointer has one.

  rows_of : (i : ℕ) (pss : List (List Pointer)) (row : List ℕ) → Memᴰ row (rows_from R im f k i pss)
      → (j : ℕ) × (p : Pointer) × Memᴰ p (flatten pss) × (pointer_row R im f k j p ≡ row)
  unfolding flatten
  rows_of i [] row m = absurd (Memᴰ.not-nil m)
  rows_of i (ps ∷ pss) row m =
      ⊎_elim
      (λ n. let o = Memᴰ.of_map (pointer_row R im f k i) ps n in (i, o.0, Memᴰ.append_left _ o.1, o.2))
      (λ n. let o = rows_of (suc i) pss row n in (o.0, o.1, Memᴰ.append_right ps o.2, o.3))
      (Memᴰ.append_cases (map (pointer_row R im f k i) ps) m)

  row_in : (i : ℕ) (pss : List (List Pointer)) (p : Pointer) → Memᴰ p (flatten pss) → (j : ℕ) × Memᴰ (pointer_row R im f k j p) (rows_from R im f k i pss)
  unfolding flatten
  row_in i [] p m = absurd (Memᴰ.not-nil m)
  row_in i (ps ∷ pss) p m =
      ⊎_elim
      (λ n. (i, Memᴰ.append_left _ (Memᴰ.map (pointer_row R im f k i) n)))
      (λ n. let o = row_in (suc i) pss p n in (o.0, Memᴰ.append_right (map (pointer_row R im f k i) ps) o.1))
      (Memᴰ.append_cases ps m)

  -- The slots of a row.

  base_is : (j : ℕ) (p : Pointer) (x : Slot) → HasBase (pointer_row R im f k j p) x → (d : Slot) × (p ≡ slots x d)
  base_is j null x h = absurd (sort_some x h.0)
  base_is j (slots b d) x h = (d, ap (λ (y : Slot). slots y d) (slot-by b x h.0 h.1))

  derived_is : (j : ℕ) (p : Pointer) (x : Slot) → HasDerived (pointer_row R im f k j p) x → (b : Slot) × (p ≡ slots b x)
  derived_is j null x h = absurd (sort_some x h.0)
  derived_is j (slots b d) x h =
      let q = past (explained R im f b) (slot_row R im f d) in
      (b, ap (slots b) (slot-by d x (sym q.0 ∙ h.0) (sym q.1 ∙ h.1)))

  tells : (j : ℕ) (p : Pointer) (x : Slot) → RowTells R im f k (pointer_row R im f k j p) x
  tells j p x =
      record {
        base_content = λ h. let b = base_is j p x h in rw b.1;
        base_reason = λ h. let b = base_is j p x h in rw b.1 (reason_front (explained R im f x) (slot_row R im f b.0));
        derived_content = λ h. let b = derived_is j p x h in rw b.1 (past (explained R im f b.0) (slot_row R im f x)).2;
        derived_reason = λ h.
            let b = derived_is j p x h in
            rw b.1 (ap (take 4) (past (explained R im f b.0) (slot_row R im f x)).3 ∙ reason_alone (explained R im f x));
      }

  row_tells : (row : List ℕ) → Memᴰ row (frame_rows R im f k) → (x : Slot) → RowTells R im f k row x
  unfolding frame_rows
  row_tells row m x =
      let o = rows_of 0 (listed R f) row m in
      subst (λ (l : List ℕ). RowTells R im f k l x) o.3 (tells o.0 o.1 x)

-- No slot is found where none is named, and none is named where none is found.

by-none : (R : Restore) (im : List ℕ) (f : Stopped) (a b c : Option Hit) → by_hit R im f a (or_else R im f b NullBase (or_else R im f c OnlyBase Unlisted)) ≡ Unlisted
    → (b ≡ none) × (c ≡ none)
by-none R im f (some h) b c e = absurd (let z : ◌≡◌ {A = ℕ} 0 1 = cc in omega arith)
by-none R im f none (some h) c e = absurd (let z : ◌≡◌ {A = ℕ} 0 1 = cc in omega arith)
by-none R im f none none (some h) e = absurd (let z : ◌≡◌ {A = ℕ} 0 1 = cc in omega arith)
by-none R im f none none none e = (refl, refl)

misses_none : (test : Pointer → Bool) (pss : List (List Pointer)) → Misses test (flatten pss) → lowest_pair test 0 pss ≡ none
misses_none test pss m = go (lowest_pair test 0 pss) refl
  where
    go : (o : Option Hit) → lowest_pair test 0 pss ≡ o → lowest_pair test 0 pss ≡ none
    go none e = e
    go (some h) e = let s = pair-some test 0 pss h e in absurd (true≢false (sym s.holds ∙ m h.pointer s.member))

and-false : (a b : Bool) → a ≡ false → (a && b) ≡ false
and-false a b e = rw e

module _ (R : Restore) (im : List ℕ) (f : Stopped) (k : ℕ) (x : Slot) (yes : (answer R im f).number ≡ 0) where
  says : explained R im f x ≡ accepted R im f x
  unfolding explained
  says = rw (eq-eqb (answer R im f).number 0 yes)

  searches : accepted R im f x ≡ Unlisted → (lowest_pair (derives x) 0 (listed R f) ≡ none) × (lowest_pair (has_base x) 0 (listed R f) ≡ none)
  unfolding accepted still
  searches e = by-none R im f (lowest_pair (moved_by R im f x) 0 (listed R f)) (lowest_pair (derives x) 0 (listed R f)) (lowest_pair (has_base x) 0 (listed R f)) e

  unnamed : explained R im f x ≡ Unlisted → Unnamed R im f k x
  unfolding frame_rows
  unnamed e row m h =
      let s = searches (sym says ∙ e) in
      let o = rows_of R im f k 0 (listed R f) row m in
      let named = subst (λ (l : List ℕ). HasBase l x ⊎ HasDerived l x) (sym o.3) h in
      ⊎_elim
      (λ b. let q = base_is R im f k o.0 o.1 x b in
      true≢false (sym (same_self x) ∙ pair-none (has_base x) 0 (listed R f) s.1 (slots x q.0) (subst (λ (p : Pointer). Memᴰ p (flatten (listed R f))) q.1 o.2)))
      (λ d. let q = derived_is R im f k o.0 o.1 x d in
      true≢false (sym (same_self x) ∙ pair-none (derives x) 0 (listed R f) s.0 (slots q.0 x) (subst (λ (p : Pointer). Memᴰ p (flatten (listed R f))) q.1 o.2)))
      named

  -- a pointer that has the slot has a row that names it
  base_misses : Unnamed R im f k x → Misses (has_base x) (flatten (listed R f))
  unfolding frame_rows
  base_misses u p m = go p m (has_base x p) refl
    where
      go : (p : Pointer) → Memᴰ p (flatten (listed R f)) → (b : Bool) → has_base x p ≡ b → has_base x p ≡ false
      go p m false e = e
      go null m true e = absurd (true≢false (sym e))
      go (slots b d) m true e =
          let o = row_in R im f k 0 (listed R f) (slots b d) m in
          let s = same_true b x e in
          absurd (u _ o.1 (inl (ap sort_of s, ap place_of s)))

  derived_misses : Unnamed R im f k x → Misses (derives x) (flatten (listed R f))
  unfolding frame_rows
  derived_misses u p m = go p m (derives x p) refl
    where
      go : (p : Pointer) → Memᴰ p (flatten (listed R f)) → (b : Bool) → derives x p ≡ b → derives x p ≡ false
      go p m false e = e
      go null m true e = absurd (true≢false (sym e))
      go (slots b d) m true e =
          let o = row_in R im f k 0 (listed R f) (slots b d) m in
          let s = same_true d x e in
          let q = past (explained R im f b) (slot_row R im f d) in
          absurd (u _ o.1 (inr (q.0 ∙ ap sort_of s, q.1 ∙ ap place_of s)))

  unlisted : Unnamed R im f k x → explained R im f x ≡ Unlisted
  unfolding accepted still
  unlisted u =
      let d = derived_misses u in
      says
      ∙ rw (
        misses_none (moved_by R im f x) (listed R f) (λ p m. and-false (derives x p) (not (eqb (old_base R im f p) 0)) (d p m)),
        misses_none (derives x) (listed R f) d,
        misses_none (has_base x) (listed R f) (base_misses u),
      )

pub rows_tell : RowsTell
rows_tell = record { row_tells = row_tells; unnamed = unnamed; unlisted = unlisted }
