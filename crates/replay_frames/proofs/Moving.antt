-- The move of one frame, from its stages.
use Prim.Native.Nat.{ℕ, ◌+◌, ◌*◌, ◌<◌}
use mathlib.Core.Path.{◌≡◌, refl, sym, ap, ◌∙◌}
use mathlib.Core.Bool.{Bool, true, false, cond, ◌&&◌}
use mathlib.Core.List.{List}
use native.Mathlib.Omega.{arith}
use borrow.Author.Tests.{eq-eqb}
use lib.ListN.{length}
use Rattle.wire.specs.Word.{word}
use Rattle.stackmap.specs.Verdict.{need}
use Rattle.stackmap.specs.Section.{is_old}
use Rattle.stackmap.specs.Check.{Accepted}
use Rattle.stackmap.proofs.Fields.{length-many}
use Rattle.questions.specs.Questions.{sought}
use Rattle.moves.specs.declared.Move.{Move}
use Rattle.moves.specs.Table.{table_right, look_up}
use Rattle.moves.specs.Settle.{refused_move}
use Rattle.moves.specs.Plan.{refuse}
use Rattle.moves.specs.Code.{Follows}
use Rattle.relocate.specs.declared.Cursor.{Cursor}
use Rattle.relocate.specs.declared.Frame.{Frame}
use Rattle.relocate.specs.declared.Machine.{Machine}
use Rattle.relocate.specs.Restore.{Restore, restore, same_machine, allowed}
use Rattle.relocate.specs.Stopped.{Stopped, stopped, registers_right, cursor}
use Rattle.relocate.specs.Plan.{image_right, only, plan}
use Rattle.relocate.specs.Code.{limited, plan_entry}
use Rattle.relocate.specs.Relocation.{answer, moved}
use Rattle.relocate_frame.proofs.Stages.{plan_33, plan_13, plan_14, plan-at, limited-entry}
use Rattle.replay.specs.Trace.{frame_at, registers_at, step_at}
use Rattle.replay.specs.Code.{frame_number, fault, early}

-- a step's frame, by what is read of it
pub frame_is : (t : List ℕ) (k : ℕ) (f : Frame) (rs : List ℕ) → f ≡ frame_at t (284 * k) → rs ≡ registers_at t (284 * k) → stopped f rs ≡ frame_number t k
unfolding step_at
frame_is t k f rs e d = rw (e, d)

pub registers_32 : (t : List ℕ) (at : ℕ) → length (registers_at t at) ≡ 32
unfolding registers_at
registers_32 t at = length-many (word 8) 8 32 t (at + 18)

-- 33, 13, 14, as the code tests them
pub early-is : (R : Restore) (n : ℕ) (m : Machine) (old : Bool) (f r : ℕ) → old ≡ is_old R.section → f ≡ fault R n
    → r ≡ need (cond old R.settings.version1 R.settings.version3 && same_machine m R.settings.machine) 33 f → r ≡ early R n m
unfolding early allowed
early-is R n m old f r o g e = rw (← o, ← g) e

module _ (R : Restore) (im : List ℕ) (k : Accepted R.section) (f : Stopped) where
  early-by : (e : ℕ) (a b c : Bool) → allowed R f.frame.machine ≡ a → image_right R.first (length im) ≡ b → table_right R.olds R.news ≡ c
      → e ≡ need a 33 (need b 13 (need c 14 0)) → 0 < e → plan R (length im) f ≡ refuse e 0
  early-by e false b c qa qb qc h l = plan_33 R im f k qa ∙ ap (λ (n : ℕ). refuse n 0) (sym h)
  early-by e true false c qa qb qc h l = plan_13 R im f k qa qb ∙ ap (λ (n : ℕ). refuse n 0) (sym h)
  early-by e true true false qa qb qc h l = plan_14 R im f k qa qb qc ∙ ap (λ (n : ℕ). refuse n 0) (sym h)
  early-by e true true true qa qb qc h l = absurd (omega arith)

  pub early-refused : (e : ℕ) → e ≡ early R (length im) f.frame.machine → 0 < e → (refused_move e 0 ≡ answer R im f) × (im ≡ moved R im f)
  unfolding early fault answer moved
  early-refused e h l = let p = early-by e _ _ _ refl refl refl h l in (rw p, rw p)

  early-none : (a b c : Bool) → ◌≡◌ {A = ℕ} (need a 33 (need b 13 (need c 14 0))) 0 → (a ≡ true) × (b ≡ true) × (c ≡ true)
  early-none false b c h = absurd (omega arith)
  early-none true false c h = absurd (omega arith)
  early-none true true false h = absurd (omega arith)
  early-none true true true h = (refl, refl, refl)

  pub early-passed : early R (length im) f.frame.machine ≡ 0
      → (allowed R f.frame.machine ≡ true) × (image_right R.first (length im) ≡ true) × (table_right R.olds R.news ≡ true)
  unfolding early fault
  early-passed h = early-none _ _ _ h

  abbrev Q : Restore
  Q = restore R.section R.olds R.news R.first (limited R.settings.most)

  pub one-moved : early R (length im) f.frame.machine ≡ 0 → length f.registers ≡ 32 → (at : Cursor) → at ≡ cursor f → (r : Move) (after v : List ℕ)
      → Follows true r after v (look_up R.olds R.news) im f.registers (only (sought R.section at.function at.address) (plan_entry Q (length im) at))
      → (r ≡ answer R im f) × (after ≡ moved R im f)
  unfolding answer moved registers_right
  one-moved h w at e r after v g =
      let p = early-passed h in
      rw (
        plan-at R im f k p.0 p.1 p.2 (eq-eqb _ 32 w) at e,
        ← limited-entry R.section R.olds R.news R.first R.settings (length im) at (sought R.section at.function at.address),
      )
      (g.answer, g.left)
