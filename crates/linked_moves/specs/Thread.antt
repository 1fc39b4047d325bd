-- A whole thread in one call over a linked section: all frames of the list move, each by its own map, or none does. The section of the
-- restore is the linked one; table, first address and settings are one for all maps.
use Rattle.std.specs.Prelude.{ℕ, suc, ◌+◌, Bool, cond, ◌&&◌, eqb, length}
use mathlib.Core.List.{List, [], ◌∷◌, map, flatten}
use Rattle.stackmap.specs.Verdict.{need}
use Rattle.moves.specs.declared.Move.{Move}
use Rattle.moves.specs.Table.{table_right}
use Rattle.moves.specs.Settle.{refused_move, accepted_move}
use Rattle.relocate.specs.declared.Machine.{Machine}
use Rattle.relocate.specs.Restore.{Restore, same_machine}
use Rattle.relocate.specs.Stopped.{Stopped, cursor}
use Rattle.relocate.specs.Plan.{image_right}
use Rattle.relocate.specs.Relocation.{answer, moved, moved_registers, Extent, extent_by, extent_of}
use Rattle.relocate.specs.Reorder.{with_section}
use Rattle.linked.specs.Linked.{Map, cut, ask_maps}
use Rattle.linked.specs.Find.{MapEntry, all_with_address, none_old}
use Rattle.thread.specs.Thread.{Thread, list_right, frames_of, passes, apart}

-- One frame.

-- the records with the frame's address in all maps
unfoldable pub records_over : List Map → Stopped → List MapEntry
records_over ms f = all_with_address f.frame.address 0 ms

-- by these: the first where there is none, the second where there are several, and else what the bytes of the record's own map give
abbrev pub by_map : {A : Type 0} → A → A → (List ℕ → A) → List MapEntry → A
by_map none several one [] = none
by_map none several one (x ∷ []) = one x.map.content
by_map none several one (x ∷ y ∷ xs) = several

-- no byte is in it
abbrev pub no_extent : Stopped → Extent
no_extent f = extent_by (cursor f).sp []

-- its extent, by its own map
unfoldable pub extent_over : List Map → Stopped → Extent
extent_over ms f = by_map (no_extent f) (no_extent f) (λ s. extent_of s f) (records_over ms f)

-- 33: version 3 or the thread's machine is not allowed
unfoldable pub allowed_new : Restore → Machine → Bool
allowed_new R m = R.settings.version3 && same_machine m R.settings.machine

module _ (R : Restore) (ms : List Map) where
  -- 10 and 15 count over all maps; else the frame's plain move by its own map, and its answer, its image and its registers
  unfoldable pub answer_over : List ℕ → Stopped → Move
  answer_over im f = by_map (refused_move 10 0) (refused_move 15 0) (λ s. answer (with_section R s) im f) (records_over ms f)

  unfoldable pub moved_over : List ℕ → Stopped → List ℕ
  moved_over im f = by_map im im (λ s. moved (with_section R s) im f) (records_over ms f)

  unfoldable pub moved_registers_over : List ℕ → Stopped → List ℕ
  moved_registers_over im f = by_map f.registers f.registers (λ s. moved_registers (with_section R s) im f) (records_over ms f)

  -- Lists of frames, as for one section: the moves one after another, each on the image as the last one left it.

  abbrev pub final_over : List Stopped → List ℕ → List ℕ
  final_over [] im = im
  final_over (f ∷ fs) im = final_over fs (moved_over im f)

  abbrev pub final_registers_over : List Stopped → List ℕ → List (List ℕ)
  final_registers_over [] im = []
  final_registers_over (f ∷ fs) im = moved_registers_over im f ∷ final_registers_over fs (moved_over im f)

  module _ (im : List ℕ) where
    -- the first refused frame's number with its position; each frame is judged by itself, and the first of these has the position i
    unfoldable pub judged_over : ℕ → List Stopped → Move → Move
    judged_over i [] k = k
    judged_over i (f ∷ fs) k = passes (answer_over im f) i (judged_over (suc i) fs k)

    -- the sum of the pointers, null ones included
    unfoldable pub pointers_over : List Stopped → ℕ
    pointers_over [] = 0
    pointers_over (f ∷ fs) = (answer_over im f).count + pointers_over fs

    -- The call once the section is cut into these maps: 27, 33, 13, 14, 25, then the frames, then 26.
    unfoldable pub thread_over : Thread → Move
    thread_over t =
        none_old refused_move ms
        (need (allowed_new R t.machine) (refused_move 33 0)
        (need (image_right R.first (length im)) (refused_move 13 0)
        (need (table_right R.olds R.news) (refused_move 14 0)
        (need (list_right t.list t.registers) (refused_move 25 0)
        (judged_over 0 (frames_of t)
        (apart 0 [] (map (extent_over ms) (frames_of t))
        (accepted_move (pointers_over (frames_of t)))))))))

    -- the image got frame by frame in list order, or the image as lent
    unfoldable pub thread_image_over : Thread → List ℕ
    thread_image_over t = cond (eqb (thread_over t).number 0) (final_over (frames_of t) im) im

    -- and each frame's registers, in list order; or the registers as lent
    unfoldable pub thread_registers_over : Thread → List ℕ
    thread_registers_over t = cond (eqb (thread_over t).number 0) (flatten (final_registers_over (frames_of t) im)) t.registers

-- The whole call: the maps' refusal, if any, first. A refusal leaves image and registers as they were lent.
module _ (R : Restore) (im : List ℕ) (t : Thread) where
  unfoldable pub linked_answer : Move
  linked_answer = ask_maps refused_move (λ ms. thread_over R ms im t) (cut R.section)

  unfoldable pub linked_image : List ℕ
  linked_image = ask_maps (λ n p. im) (λ ms. thread_image_over R ms im t) (cut R.section)

  unfoldable pub linked_registers : List ℕ
  linked_registers = ask_maps (λ n p. t.registers) (λ ms. thread_registers_over R ms im t) (cut R.section)
