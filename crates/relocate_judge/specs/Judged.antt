-- For the code alone: nothing here has to be believed.
-- What the judgement of a frame tells: its refusal, or that it is accepted and the arrays hold its pointers.
use Rattle.std.specs.Prelude.{ℕ, ◌-◌, ◌≡◌, true, length}
use mathlib.Core.List.{List, flatten}
use Rattle.stackmap.specs.Check.{Accepted}
use Rattle.moves.specs.Table.{table_right}
use Rattle.moves.specs.Pointers.{Pointer}
use Rattle.moves.specs.Plan.{window}
use Rattle.moves.specs.Settle.{accepted_move}
use Rattle.moves.specs.Arrays.{AllPlaced, pointers_of}
use Rattle.relocate.specs.declared.Cursor.{Cursor}
use Rattle.relocate.specs.Limits.{register_count}
use Rattle.relocate.specs.Restore.{Restore}
use Rattle.relocate.specs.Stopped.{Stopped, cursor}
use Rattle.relocate.specs.Statepoint.{pairs}
use Rattle.relocate.specs.Plan.{image_right, plan}
use Rattle.relocate.specs.Relocation.{answer}
use Rattle.relocate.specs.Code.{record_of, pool_of, plan_slots, pointers_by}
use Rattle.relocate_plan.specs.declared.Outline.{Outline}
use Rattle.relocate_plan.specs.Outlined.{Stands}

-- the cursor is the call's, and what is left of its plan is 19 and the window, of the outline's record
pub record Leads (R : Restore) (im : List ℕ) (st : Stopped) (f : Cursor) (o : Outline) : Type 0 where
  pub accepted : Accepted R.section
  pub cursor_is : f ≡ cursor st
  pub goes_on : plan R (length im) st ≡ plan_slots R f o.size (pairs (record_of R.section o.at))

-- the pointers of the outline's record, pair by pair
abbrev pub pointers_in : Restore → Cursor → Outline → List (List Pointer)
pointers_in R f o = pointers_by o.old (pool_of R.section) f (record_of R.section o.at)

-- the frame is accepted, and the arrays hold its pointers, whose slots are in its window or registers
pub record Held (R : Restore) (im : List ℕ) (st : Stopped) (f : Cursor) (o : Outline) (live bases derived : List ℕ) : Type 0 where
  pub accepted : Accepted R.section
  pub cursor_is : f ≡ cursor st
  pub stands : Stands R.section R.first (length im) f o
  pub registers_right : length st.registers ≡ register_count
  pub image_right : image_right R.first (length im) ≡ true
  pub table_right : table_right R.olds R.news ≡ true
  pub is_window : plan R (length im) st ≡ window (f.sp - R.first) o.size (pointers_in R f o)
  pub holds : pointers_of o.pointers live bases derived ≡ flatten (pointers_in R f o)
  pub placed : AllPlaced o.size register_count o.pointers live bases derived
  pub answer_is : answer R im st ≡ accepted_move o.pointers

pub record Judged (R : Restore) (im : List ℕ) (st : Stopped) (f : Cursor) (o : Outline) (live bases derived : List ℕ) : Type 0 where
  pub refused : (o.number ≡ 0 → ⊥) → ((answer R im st).number ≡ o.number) × ((answer R im st).place ≡ o.place)
  pub held : o.number ≡ 0 → Held R im st f o live bases derived
