-- From the judgement of a frame to the reason.
use Prim.Native.Nat.{ℕ, ◌-◌}
use mathlib.Core.Path.{◌≡◌, sym, ap, ◌∙◌}
use mathlib.Core.List.{List}
use lib.ListN.{take, drop}
use Rattle.moves.specs.declared.Move.{Move}
use Rattle.moves.specs.Table.{look_up}
use Rattle.moves.specs.Window.{part}
use Rattle.moves.specs.Slots.{Slot, State, state}
use Rattle.relocate.specs.declared.Cursor.{Cursor}
use Rattle.relocate.specs.Restore.{Restore}
use Rattle.relocate.specs.Stopped.{Stopped}
use Rattle.relocate_plan.specs.declared.Outline.{Outline}
use Rattle.relocate_judge.specs.Judged.{pointers_in, Held, Judged}
use Rattle.explain.specs.declared.Reason.{Reason}
use Rattle.explain.specs.declared.Reason.TheVariants.{Refused}
use Rattle.explain.specs.Explain.{explained}
use Rattle.explain_pointers.specs.Told.{number_of, told}
use Rattle.explain_slot.proofs.Meets.{says_refused, says-told}

module _ (R : Restore) (im : List ℕ) (st : Stopped) (f : Cursor) (o : Outline) (live bases derived : List ℕ) (x : Slot) where
  pub tells_refused : Judged R im st f o live bases derived → (o.number ≡ 0 → ⊥) → Refused o.number o.place ≡ explained R im st x
  tells_refused j h = let a = j.refused h in sym (says_refused R im st x o.number o.place a.0 a.1 h)

  -- the frame's window, with its registers
  abbrev pub window_of : State
  window_of = state (part im (f.sp - R.first) o.size) st.registers

  pub tells_held : Held R im st f o live bases derived
      → told window_of live bases derived (look_up R.olds R.news) o.pointers (pointers_in R f o) (number_of f.sp x) ≡ explained R im st x
  tells_held h =
      ap (λ (q : Cursor). told window_of live bases derived (look_up R.olds R.news) o.pointers (pointers_in R f o) (number_of q.sp x)) h.cursor_is
      ∙ sym (says-told R im st x (f.sp - R.first) o.size (pointers_in R f o) h.is_window h.accepted o.pointers live bases derived h.holds h.placed
      h.stands.small (ap (λ (m : Move). m.number) h.answer_is))

  -- by the slice that the code takes of the image
  pub tells_slice : (n : ℕ) → n ≡ o.size → (r : Reason)
      → r ≡ told (state (take n (drop (f.sp - R.first) im)) st.registers) live bases derived (look_up R.olds R.news) o.pointers (pointers_in R f o) (number_of f.sp x)
      → Held R im st f o live bases derived → r ≡ explained R im st x
  tells_slice n e r q h = q ∙ rw e (tells_held h)
