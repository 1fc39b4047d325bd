-- How many numbers the rows of accepted frames are.
use Prim.Native.Nat.{ℕ, suc, ◌+◌, ◌*◌}
use mathlib.Core.Path.{◌≡◌, refl, sym, ap, ◌∙◌}
use mathlib.Core.List.{List, [], ◌∷◌, ◌++◌, map, flatten}
use native.Mathlib.Omega.{arith}
use lib.ListN.{length, length-append}
use Rattle.stackmap.specs.Verdict.{Valid}
use Rattle.stackmap.specs.Section.{is_old, read_section}
use Rattle.stackmap.specs.Check.{section_check}
use Rattle.moves.specs.Pointers.{Pointer, null, slots}
use Rattle.relocate.specs.Restore.{Restore}
use Rattle.relocate.specs.Stopped.{Stopped, cursor}
use Rattle.relocate.specs.Statepoint.{pairs, pointers_of}
use Rattle.relocate.specs.Relocation.{answer}
use Rattle.relocate.proofs.Planned.{Planned, planned}
use Rattle.relocate.proofs.Demand.{Passed, accepts, accepted-section}
use Rattle.relocate.proofs.Consequences.{counts}
use Rattle.explain.specs.declared.Reason.{Reason}
use Rattle.explain.specs.declared.Reason.TheVariants.{Unlisted, OnlyBase, NullBase, Moved, Refused}
use Rattle.explain.specs.Explain.{pointer_at, listed, explained}
use Rattle.explain.specs.Rows.{reason_numbers, slot_row, pointer_row, rows_from, frame_rows, rows_of}

pub reason_length : (r : Reason) → length (reason_numbers r) ≡ 4
reason_length Unlisted = refl
reason_length OnlyBase = refl
reason_length NullBase = refl
reason_length (Moved p o n) = refl
reason_length (Refused n p) = refl

map-length : (g : Pointer → Pointer) (ps : List Pointer) → length (map g ps) ≡ length ps
map-length g [] = refl
map-length g (p ∷ ps) = ap suc (map-length g ps)

flat-length : (g : Pointer → Pointer) (pss : List (List Pointer)) → length (flatten (map (map g) pss)) ≡ length (flatten pss)
unfolding flatten
flat-length g [] = refl
flat-length g (ps ∷ pss) =
    length-append (map g ps) (flatten (map (map g) pss)) ∙ omega (arith, map-length g ps, flat-length g pss, length-append ps (flatten pss))

module _ (R : Restore) (im : List ℕ) (st : Stopped) (k : ℕ) where
  row_16 : (i : ℕ) (p : Pointer) → length (pointer_row R im st k i p) ≡ 16
  row_16 i null = refl
  row_16 i (slots b d) =
      ap (λ (m : ℕ). suc (suc m))
      (length-append (slot_row R im st b) (slot_row R im st d) ∙ omega (arith, reason_length (explained R im st b), reason_length (explained R im st d)))

  pair-length : (i : ℕ) (ps : List Pointer) (rest : List (List ℕ)) → length (flatten (map (pointer_row R im st k i) ps ++ rest)) ≡ 16 * length ps + length (flatten rest)
  unfolding flatten
  pair-length i [] rest = omega arith
  pair-length i (p ∷ ps) rest =
      length-append (pointer_row R im st k i p) (flatten (map (pointer_row R im st k i) ps ++ rest)) ∙ omega (arith, row_16 i p, pair-length i ps rest)

  pairs-length : (i : ℕ) (pss : List (List Pointer)) → length (flatten (rows_from R im st k i pss)) ≡ 16 * length (flatten pss)
  unfolding flatten
  pairs-length i [] = refl
  pairs-length i (ps ∷ pss) =
      pair-length i ps (rows_from R im st k (suc i) pss) ∙ omega (arith, pairs-length (suc i) pss, length-append ps (flatten pss))

module _ (R : Restore) (im : List ℕ) (st : Stopped) (yes : (answer R im st).number ≡ 0) where
  section_right : section_check R.section ≡ Valid (length R.section)
  section_right = accepted-section R im st yes

  a : Passed R (length R.section) section_right im st
  a = accepts R (length R.section) section_right im st yes

  q : Planned R (length im) st a.off a.size a.pairs
  q = planned R (length im) st (length R.section) section_right a.off a.size a.pairs a.is_window

  listed-count : length (flatten (listed R st)) ≡ (answer R im st).count
  unfolding listed
  listed-count =
      rw q.one
      (flat-length (pointer_at (cursor st).sp) (map (pointers_of (is_old R.section) (read_section R.section).constants (cursor st)) (pairs q.entry.body))
      ∙ sym (counts.accepted R im st yes q.entry q.one).1)

  -- sixteen for each pointer
  pub rows-length : (k : ℕ) → length (rows_of R im st k) ≡ 16 * (answer R im st).count
  unfolding rows_of frame_rows
  rows-length k = pairs-length R im st k 0 (listed R st) ∙ ap (λ (m : ℕ). 16 * m) listed-count
