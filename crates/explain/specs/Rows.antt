-- Why, for all slots of a frame at once: the frame's pointers in one list of numbers, sixteen a pointer, pair by pair. (The shape is ours.)
use Rattle.std.specs.Prelude.{ℕ, suc, cond, eqb, leb, length}
use mathlib.Core.List.{List, [], ◌∷◌, ◌++◌, map, flatten}
use Rattle.std.proofs.lemmas.List.Edits.{sets}
use Rattle.stackmap.specs.Verdict.{need}
use Rattle.moves.specs.declared.Move.{Move}
use Rattle.moves.specs.Slots.{Slot, memory, register}
use Rattle.moves.specs.Pointers.{Pointer, null, slots}
use Rattle.moves.specs.Settle.{refused_move, accepted_move}
use Rattle.relocate.specs.Restore.{Restore}
use Rattle.relocate.specs.Stopped.{Stopped}
use Rattle.relocate.specs.Relocation.{answer, content_at}
use Rattle.explain.specs.declared.Reason.{Reason}
use Rattle.explain.specs.declared.Reason.TheVariants.{Unlisted, OnlyBase, NullBase, Moved, Refused}
use Rattle.explain.specs.Explain.{listed, explained}

-- the numbers of a pointer
abbrev pub row_numbers : ℕ
row_numbers = 16

-- a slot's sort, and its address or its register's number
abbrev pub sort_of : Slot → ℕ
sort_of (memory a) = 1
sort_of (register r) = 2

abbrev pub place_of : Slot → ℕ
place_of (memory a) = a
place_of (register r) = r

-- the reason's number; then of moved the pair, the old base and the new base
abbrev pub reason_numbers : Reason → List ℕ
reason_numbers Unlisted = 0 ∷ 0 ∷ 0 ∷ 0 ∷ []
reason_numbers OnlyBase = 1 ∷ 0 ∷ 0 ∷ 0 ∷ []
reason_numbers NullBase = 2 ∷ 0 ∷ 0 ∷ 0 ∷ []
reason_numbers (Moved p o n) = 3 ∷ p ∷ o ∷ n ∷ []
reason_numbers (Refused n p) = 4 ∷ 0 ∷ 0 ∷ 0 ∷ []

-- the seven numbers of a slot that a null pointer does not have
abbrev pub no_slot : List ℕ
no_slot = 0 ∷ 0 ∷ 0 ∷ 0 ∷ 0 ∷ 0 ∷ 0 ∷ []

module _ (R : Restore) (im : List ℕ) (f : Stopped) where
  -- of a slot: sort, address or number, content before the move, and why it moves or does not
  abbrev pub slot_row : Slot → List ℕ
  slot_row x = sort_of x ∷ place_of x ∷ content_at R im f.registers x ∷ reason_numbers (explained R im f x)

  -- of a pointer: the frame's position k, its pair's number i, the base slot, the derived slot
  abbrev pub pointer_row : ℕ → ℕ → Pointer → List ℕ
  pointer_row k i null = k ∷ i ∷ (no_slot ++ no_slot)
  pointer_row k i (slots b d) = k ∷ i ∷ (slot_row b ++ slot_row d)

  -- pair by pair; the first of these has number i
  abbrev pub rows_from : ℕ → ℕ → List (List Pointer) → List (List ℕ)
  rows_from k i [] = []
  rows_from k i (ps ∷ pss) = map (pointer_row k i) ps ++ rows_from k (suc i) pss

  unfoldable pub frame_rows : ℕ → List (List ℕ)
  frame_rows k = rows_from k 0 (listed R f)

  -- one after the other
  unfoldable pub rows_of : ℕ → List ℕ
  rows_of k = flatten (frame_rows k)

-- A refusal of the move first; then 24 where the lent list is too short; else how many numbers are written.
unfoldable pub rows_answer : Move → List ℕ → List ℕ → Move
rows_answer a rows lent =
    need (eqb a.number 0) (refused_move a.number a.place)
    (need (leb (length rows) (length lent)) (refused_move 24 0)
    (accepted_move (length rows)))

-- the list with the rows at its start; as lent on a refusal
unfoldable pub rows_list : Move → List ℕ → List ℕ → List ℕ
rows_list a rows lent = cond (eqb (rows_answer a rows lent).number 0) (sets lent 0 rows) lent

-- of one frame, at the position 0
abbrev pub explain_frame : Restore → List ℕ → Stopped → List ℕ → Move
explain_frame R im f lent = rows_answer (answer R im f) (rows_of R im f 0) lent

abbrev pub explain_frame_list : Restore → List ℕ → Stopped → List ℕ → List ℕ
explain_frame_list R im f lent = rows_list (answer R im f) (rows_of R im f 0) lent
