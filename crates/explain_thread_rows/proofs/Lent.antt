-- How many pointers frames have, and an accepted frame as the code hands it on.
use Prim.Native.Nat.{ℕ, zero, suc, ◌*◌, ◌≤◌}
use mathlib.Core.Path.{◌≡◌, sym, subst, ◌∙◌}
use mathlib.Core.List.{List}
use native.Mathlib.Omega.{arith}
use native.Mathlib.Decide.{ℕ_discrete}
use lib.ListN.{take, drop}
use Rattle.relocate.specs.declared.Cursor.{Cursor}
use Rattle.relocate.specs.declared.Frame.{Frame}
use Rattle.relocate.specs.Restore.{Restore}
use Rattle.relocate.specs.Stopped.{Stopped, stopped, cursor}
use Rattle.relocate.specs.Relocation.{answer}
use Rattle.relocate_plan.specs.declared.Outline.{Outline}
use Rattle.relocate_judge.specs.Judged.{Held, Judged}
use Rattle.thread.specs.Thread.{Thread, frames_from, stopped_at, pointers_in}
use Rattle.thread_call.proofs.Few.{answer-few}

-- a frame has no more than 256 pointers
pub pointers_few : (R : Restore) (im : List ℕ) (t : Thread) → R.settings.most ≤ 256 → (n k : ℕ) → pointers_in R im (frames_from t n k) ≤ 256 * n
unfolding pointers_in
pointers_few R im t h zero k = omega arith
pointers_few R im t h (suc n) k = omega (arith, answer-few R im (stopped_at t k), pointers_few R im t h n (suc k))

-- an accepted frame's outline is no refusal
accepted_outline : (R : Restore) (im : List ℕ) (st : Stopped) (f : Cursor) (o : Outline) (live bases derived : List ℕ) → Judged R im st f o live bases derived
    → (answer R im st).number ≡ 0 → o.number ≡ 0
accepted_outline R im st f o live bases derived j accepts = go (ℕ_discrete o.number 0)
  where
    go : Dec (o.number ≡ 0) → o.number ≡ 0
    go (yes z) = z
    go (no h) = absurd (h (sym (j.refused h).0 ∙ accepts))

-- as it is lent to `put_frame`
pub held_lent : (R : Restore) (im : List ℕ) (th : Thread) (k n : ℕ) (fr : Frame) (f : Cursor) (o : Outline) (live bases derived : List ℕ)
    → stopped fr (take n (drop (32 * k) th.registers)) ≡ stopped_at th k → f ≡ cursor (stopped fr (take n (drop (32 * k) th.registers)))
    → (answer R im (stopped_at th k)).number ≡ 0 → Judged R im (stopped_at th k) (cursor (stopped_at th k)) o live bases derived
    → Held R im (stopped fr (take n (drop (32 * k) th.registers))) f o live bases derived
held_lent R im th k n fr f o live bases derived s e accepts j =
    let h = j.held (accepted_outline R im (stopped_at th k) (cursor (stopped_at th k)) o live bases derived j accepts) in
    subst (λ (q : Cursor). Held R im (stopped fr (take n (drop (32 * k) th.registers))) q o live bases derived) (sym e)
    (subst (λ (st : Stopped). Held R im st (cursor st) o live bases derived) (sym s) h)
