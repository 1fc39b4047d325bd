-- The stages of a plan, each by the tests that lead to it.
use Prim.Native.Nat.{ℕ, ◌<◌}
use mathlib.Core.Path.{◌≡◌, refl, sym}
use mathlib.Core.Bool.{Bool, true, false, cond, ◌&&◌}
use mathlib.Core.List.{List}
use native.Mathlib.Omega.{arith}
use borrow.Author.Tests.{eqb-true}
use lib.ListN.{length}
use Rattle.stackmap.specs.Section.{Entry, is_old}
use Rattle.stackmap.specs.Check.{Accepted}
use Rattle.questions.specs.declared.Found.{Found}
use Rattle.questions.specs.Kept.{searched, of_section}
use Rattle.questions.specs.Questions.{ask, sought}
use Rattle.questions.proofs.Searched.{section-refused}
use Rattle.moves.specs.declared.Move.{Move}
use Rattle.moves.specs.Table.{table_right, look_up}
use Rattle.moves.specs.Plan.{refuse}
use Rattle.moves.specs.Code.{Follows}
use Rattle.relocate.specs.declared.Cursor.{Cursor}
use Rattle.relocate.specs.declared.Machine.{Machine}
use Rattle.relocate.specs.declared.Machine.TheVariants.{Amd64, Aarch64}
use Rattle.relocate.specs.Limits.{register_count, frame_pointer, stack_pointer}
use Rattle.relocate.specs.declared.Settings.{Settings}
use Rattle.relocate.specs.Restore.{Restore, restore, same_machine, allowed}
use Rattle.relocate.specs.Stopped.{Stopped, registers_right, cursor}
use Rattle.relocate.specs.Plan.{records_of, only, image_right, plan_pairs, plan_record, plan}
use Rattle.relocate.specs.Relocation.{answer, moved, moved_registers}
use Rattle.relocate.specs.Code.{limited, plan_entry, Relocates}

-- 1 to 9, 33, 13, 14, 25

module _ (R : Restore) (im : List ℕ) (st : Stopped) where
  pub relocates : (r : Move) (after rs : List ℕ) → Follows true r after rs (look_up R.olds R.news) im st.registers (plan R (length im) st)
      → Relocates R im st r after rs
  unfolding answer moved moved_registers
  relocates r after rs h = record { answer_is = h.answer; image_is = h.left; registers_is = h.registers_left }

  pub plan-section : (r : Found) → r ≡ searched R.section st.frame.address → of_section r ≡ true → plan R (length im) st ≡ refuse r.number r.place
  unfolding plan
  plan-section r e h = section-refused R.section st.frame.address r e refuse _ h

  module _ (k : Accepted R.section) where
    pub plan_33 : allowed R st.frame.machine ≡ false → plan R (length im) st ≡ refuse 33 0
    unfolding plan ask
    plan_33 h = rw (k, h)

    module _ (l : allowed R st.frame.machine ≡ true) where
      pub plan_13 : image_right R.first (length im) ≡ false → plan R (length im) st ≡ refuse 13 0
      unfolding plan ask
      plan_13 h = rw (k, l, h)

      module _ (i : image_right R.first (length im) ≡ true) where
        pub plan_14 : table_right R.olds R.news ≡ false → plan R (length im) st ≡ refuse 14 0
        unfolding plan ask
        plan_14 h = rw (k, l, i, h)

        module _ (t : table_right R.olds R.news ≡ true) where
          pub plan_25 : registers_right st.registers ≡ false → plan R (length im) st ≡ refuse 25 0
          unfolding plan ask
          plan_25 h = rw (k, l, i, t, h)

          module _ (g : registers_right st.registers ≡ true) where
            pub plan_on : plan R (length im) st ≡ only (records_of R.section st.frame) (plan_entry R (length im) (cursor st))
            unfolding plan ask
            plan_on = rw (k, l, i, t, g)

            -- by the cursor that the code works out
            pub plan-at : (f : Cursor) → f ≡ cursor st
                → plan R (length im) st ≡ only (sought R.section f.function f.address) (plan_entry R (length im) f)
            unfolding records_of cursor
            plan-at f e = rw e plan_on

-- 33, as the code tests it
pub allowed-is : (R : Restore) (m : Machine) (old r : Bool) → old ≡ is_old R.section
    → r ≡ (cond old R.settings.version1 R.settings.version3 && same_machine m R.settings.machine) → allowed R m ≡ r
unfolding allowed
allowed-is R m old r o e = rw (← o) (sym e)

-- the plan of an entry reads of the settings only the pointer count
pub limited-entry : (s olds news : List ℕ) (first : ℕ) (settings : Settings) (n : ℕ) (f : Cursor) (es : List Entry)
    → only es (plan_entry (restore s olds news first (limited settings.most)) n f) ≡ only es (plan_entry (restore s olds news first settings) n f)
unfolding plan_record plan_pairs
limited-entry s olds news first settings n f es = refl

-- what a cursor's records are
pub records-at : (s : List ℕ) (st : Stopped) (f : Cursor) → f ≡ cursor st → sought s f.function f.address ≡ sought s st.frame.function st.frame.address
unfolding cursor
records-at s st f e = rw e

-- 25
pub registers_32 : (rs : List ℕ) → registers_right rs ≡ true → length rs ≡ register_count
unfolding registers_right
registers_32 rs h = eqb-true _ _ h

-- a machine's frame pointer and stack pointer are two of them
pub frame_below : (m : Machine) → frame_pointer m < register_count
frame_below Amd64 = omega arith
frame_below Aarch64 = omega arith

pub stack-below : (m : Machine) → stack_pointer m < register_count
stack-below Amd64 = omega arith
stack-below Aarch64 = omega arith
