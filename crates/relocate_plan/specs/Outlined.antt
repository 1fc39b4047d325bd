-- For the code alone: nothing here has to be believed.
-- What an outline tells of a plan.
use Rattle.std.specs.Prelude.{ℕ, ◌≤◌, ◌<◌, ◌≡◌, true, false, length}
use mathlib.Core.List.{List, flatten}
use Rattle.stackmap.specs.Section.{is_old}
use Rattle.moves.specs.Limits.{pairs_most}
use Rattle.moves.specs.Plan.{Plan, refuse}
use Rattle.relocate.specs.declared.Cursor.{Cursor}
use Rattle.relocate.specs.Limits.{image_most}
use Rattle.relocate.specs.Restore.{Restore}
use Rattle.relocate.specs.Statepoint.{pairs, right_form}
use Rattle.relocate.specs.Plan.{extent_right}
use Rattle.relocate.specs.Code.{record_of, pool_of, plan_slots, pair_number, Paired, pointers_by}
use Rattle.relocate_plan.specs.declared.Outline.{Outline}

abbrev pub refused_outline : ℕ → ℕ → Outline
refused_outline n p = record { number = n; place = p; size = 0; pointers = 0; at = 0; start = 0; count = 0; old = false }

-- what is known of the pairs of a frame that is not refused
pub record Formed (s : List ℕ) (f : Cursor) (o : Outline) : Type 0 where
  pub paired : Paired s o.at o.start o.count
  pub old_is : o.old ≡ is_old s
  pub forms : (q : ℕ) → q < o.count → right_form f.machine o.old (pool_of s) (pair_number (record_of s o.at) q) ≡ true
  pub counted : o.pointers ≡ length (flatten (pointers_by o.old (pool_of s) f (record_of s o.at)))
  pub few : o.pointers ≤ pairs_most

-- by its pairs, in an extent of so many bytes: refused, or what is left of the plan is 19 and the window
pub record OutlinesPairs (R : Restore) (f : Cursor) (size : ℕ) (p : Plan) (o : Outline) : Type 0 where
  pub refused : (o.number ≡ 0 → ⊥) → p ≡ refuse o.number o.place
  pub formed : o.number ≡ 0 → Formed R.section f o
  pub sized : o.number ≡ 0 → o.size ≡ size
  pub goes_on : o.number ≡ 0 → p ≡ plan_slots R f o.size (pairs (record_of R.section o.at))

-- and its extent is right, in an image of n bytes from `first`
pub record Stands (s : List ℕ) (first n : ℕ) (f : Cursor) (o : Outline) : Type 0 where
  pub formed : Formed s f o
  pub extent : extent_right first n f.sp o.size ≡ true
  pub small : o.size ≤ image_most

pub record Outlines (R : Restore) (n : ℕ) (f : Cursor) (p : Plan) (o : Outline) : Type 0 where
  pub refused : (o.number ≡ 0 → ⊥) → p ≡ refuse o.number o.place
  pub stands : o.number ≡ 0 → Stands R.section R.first n f o
  pub goes_on : o.number ≡ 0 → p ≡ plan_slots R f o.size (pairs (record_of R.section o.at))
