-- What a frame is before any byte of the image is read: a refusal, or its extent in the image with its pointers. The order for
-- a frame: 1 to 9, 33, 13, 14, 25, 10, 15, 12, 16, 17, then 18, 19, each over all pairs before the next.
use Rattle.std.specs.Prelude.{ℕ, suc, ◌+◌, ◌-◌, Bool, true, false, not, ◌&&◌, ◌||◌, length, eqb, leb}
use mathlib.Core.List.{List, [], ◌∷◌, map, flatten}
use Rattle.stackmap.specs.Layout.{address_most, stack_size_unknown}
use Rattle.stackmap.specs.Verdict.{need}
use Rattle.stackmap.specs.Section.{Record, Entry, is_old, read_section}
use Rattle.stackmap.specs.Check.{section_check}
use Rattle.moves.specs.Table.{table_right}
use Rattle.moves.specs.Plan.{Plan, refuse, window}
use Rattle.relocate.specs.declared.Frame.{Frame}
use Rattle.relocate.specs.Limits.{image_most}
use Rattle.relocate.specs.declared.Cursor.{Cursor}
use Rattle.relocate.specs.Restore.{Restore, allowed}
use Rattle.relocate.specs.Stopped.{Stopped, registers_right, cursor}
use Rattle.questions.specs.Questions.{ask, sought}
use Rattle.relocate.specs.Statepoint.{is_statepoint, Pair, pairs, right_form, inside, pointers_of}

-- the records that a frame names: those with its address; in version 1 those at its offset, of its function, if that is there
unfoldable pub records_of : List ℕ → Frame → List Entry
records_of s f = sought s f.function f.address

-- exactly one record: 10 if none, 15 if more
unfoldable pub only : List Entry → (Entry → Plan) → Plan
only [] k = refuse 10 0
only (e ∷ []) k = k e
only (e ∷ e' ∷ es) k = refuse 15 0

-- go on where the test holds of every pair, and else this refusal, at the lowest pair of which it doesn't; the first has number i
unfoldable pub every : (Pair → Bool) → ℕ → ℕ → List Pair → Plan → Plan
every good n i [] k = k
every good n i (p ∷ ps) k = elim (good p) [ true ↦ every good n (suc i) ps k | false ↦ refuse n i ]

-- 13: image over 1,048,576 bytes, or first address + length over 2^64 - 1
unfoldable pub image_right : ℕ → ℕ → Bool
image_right first n = leb n image_most && leb (first + n) address_most

abbrev pub stack_size : Entry → ℕ
stack_size e = e.owner.function.stack_size

-- 16: stack size unknown, or extent not inside the image of n bytes from `first`
unfoldable pub extent_right : ℕ → ℕ → ℕ → ℕ → Bool
extent_right first n sp size =
    not (eqb size stack_size_unknown) && (leb first sp && leb (sp + size) (first + n))

module _ (R : Restore) where
  -- 17, 18, 17, 19, of the pairs of a frame whose extent is so many bytes. In version 1 17 is over the pairs and comes before 18; in version 3
  -- it is over the pointers and comes after 18. (In version 1 pointers are pairs, so the second 17 is never given.)
  unfoldable pub plan_pairs : Cursor → ℕ → List Pair → Plan
  plan_pairs f size ps =
      let old = is_old R.section in
      let pool = (read_section R.section).constants in
      let pss = map (pointers_of old pool f) ps in
      need (not old || leb (length ps) R.settings.most) (refuse 17 0)
      (every (right_form f.machine old pool) 18 0 ps
      (need (leb (length (flatten pss)) R.settings.most) (refuse 17 0)
      (every (inside old pool f size) 19 0 ps
      (window (f.sp - R.first) size pss))))

  -- 12, 16, then 17, 18, 19, of a frame whose one record is r, of a function with this stack size, in an image of n bytes
  unfoldable pub plan_record : ℕ → Cursor → ℕ → Record → Plan
  plan_record n f size r =
      need (is_statepoint r) (refuse 12 0)
      (need (extent_right R.first n f.sp size) (refuse 16 0)
      (plan_pairs f size (pairs r)))

  unfoldable pub plan : ℕ → Stopped → Plan
  plan n st =
      ask refuse
      (need (allowed R st.frame.machine) (refuse 33 0)
      (need (image_right R.first n) (refuse 13 0)
      (need (table_right R.olds R.news) (refuse 14 0)
      (need (registers_right st.registers) (refuse 25 0)
      (only (records_of R.section st.frame) (λ e. plan_record n (cursor st) (stack_size e) e.body))))))
      (section_check R.section)
