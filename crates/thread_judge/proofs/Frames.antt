-- A frame of the list, as the code hands it on.
use Prim.Native.Nat.{ℕ, ◌*◌, ◌<◌}
use mathlib.Core.Path.{◌≡◌, sym, ap, subst, ◌∙◌}
use mathlib.Core.Bool.{true}
use mathlib.Core.List.{List}
use borrow.Author.Tests.{eq-eqb}
use lib.ListN.{length, take, drop}
use Rattle.stackmap.specs.Check.{Accepted}
use Rattle.questions.specs.Questions.{sought}
use Rattle.moves.specs.Table.{table_right}
use Rattle.relocate.specs.declared.Cursor.{Cursor}
use Rattle.relocate.specs.declared.Frame.{Frame}
use Rattle.relocate.specs.Restore.{Restore, restore, allowed}
use Rattle.relocate.specs.Stopped.{Stopped, stopped, registers_right, cursor}
use Rattle.relocate.specs.Plan.{image_right, only, plan}
use Rattle.relocate.specs.Code.{limited, plan_entry}
use Rattle.relocate_plan.specs.declared.Outline.{Outline}
use Rattle.relocate_frame.proofs.Stages.{plan-at, limited-entry}
use Rattle.relocate_judge.specs.Judged.{Judged}
use Rattle.relocate_judge.proofs.Leading.{judged-cursor}
use Rattle.thread.specs.Thread.{Thread, frame_at, stopped_at}
use Rattle.thread.proofs.Parts.{own_registers}

module _ (R : Restore) (im : List ℕ) (th : Thread) (k : ℕ) where
  own_plan : (count : ℕ) → length th.registers ≡ 32 * count → k < count → Accepted R.section → allowed R th.machine ≡ true
      → image_right R.first (length im) ≡ true → table_right R.olds R.news ≡ true → (f : Cursor) → f ≡ cursor (stopped_at th k)
      → plan R (length im) (stopped_at th k) ≡ only (sought R.section f.function f.address) (plan_entry R (length im) f)
  unfolding stopped_at frame_at registers_right
  own_plan count w l acc y i t f e = plan-at R im (stopped_at th k) acc y i t (eq-eqb _ 32 (own_registers th count k w l)) f e

  -- by the part of the registers that is lent
  module _ (n : ℕ) (fr : Frame) (s : stopped fr (take n (drop (32 * k) th.registers)) ≡ stopped_at th k) (f : Cursor)
      (e : f ≡ cursor (stopped fr (take n (drop (32 * k) th.registers)))) where
    pub frame-plan : (count : ℕ) → length th.registers ≡ 32 * count → k < count → Accepted R.section → allowed R th.machine ≡ true
        → image_right R.first (length im) ≡ true → table_right R.olds R.news ≡ true
        → plan R (length im) (stopped fr (take n (drop (32 * k) th.registers)))
        ≡ only (sought R.section f.function f.address) (plan_entry (restore R.section R.olds R.news R.first (limited R.settings.most)) (length im) f)
    frame-plan count w l acc y i t =
        ap (plan R (length im)) s ∙ own_plan count w l acc y i t f (e ∙ ap cursor s)
        ∙ sym (limited-entry R.section R.olds R.news R.first R.settings (length im) f (sought R.section f.function f.address))

    pub frame-judged : (o : Outline) (live bases derived : List ℕ) → Judged R im (stopped fr (take n (drop (32 * k) th.registers))) f o live bases derived
        → Judged R im (stopped_at th k) (cursor (stopped_at th k)) o live bases derived
    frame-judged o live bases derived j =
        subst (λ (st : Stopped). Judged R im st (cursor st) o live bases derived) s (judged-cursor R im _ f _ o live bases derived e j)
