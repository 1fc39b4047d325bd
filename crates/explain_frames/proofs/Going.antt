-- The rows of a thread's frames, written one frame after another.
use Prim.Native.Nat.{ℕ, suc, ◌+◌, ◌*◌, ◌-◌, ◌≤◌, ◌<◌}
use mathlib.Core.Path.{◌≡◌, refl, sym, ap, ◌∙◌}
use mathlib.Core.List.{List, ◌++◌, Memᴰ}
use native.Mathlib.Omega.{arith}
use lib.ListN.{length}
use lib.Seq.{sets, length-sets}
use Rattle.wire.proofs.Laws.{sets-append}
use Rattle.relocate.specs.Restore.{Restore}
use Rattle.relocate.specs.Stopped.{Stopped}
use Rattle.relocate.specs.Relocation.{answer}
use Rattle.thread.specs.Thread.{Thread, stopped_at, frames_from, pointers_in}
use Rattle.thread.proofs.Frames.{frames_step, frames-end, frames-start}
use Rattle.explain.specs.Rows.{rows_of}
use Rattle.explain_frames.specs.Rows.{thread_rows}
use Rattle.explain_laws.proofs.Lengths.{rows-length}

module _ (R : Restore) (im : List ℕ) (th : Thread) (n : ℕ) where
  -- the frames that are left
  abbrev left : ℕ → List Stopped
  left k = frames_from th (n - k) k

  -- the rows of the first k frames are written, up to the place `to`
  pub record Going (lent rows : List ℕ) (k to : ℕ) : Type 0 where
    pub most : k ≤ n
    pub wide : length rows ≡ length lent
    pub fits : to + 16 * pointers_in R im (left k) ≡ 16 * pointers_in R im (frames_from th n 0)
    pub each : (f : Stopped) → Memᴰ f (left k) → (answer R im f).number ≡ 0
    pub same : sets rows to (thread_rows R im k (left k)) ≡ sets lent 0 (thread_rows R im 0 (frames_from th n 0))

  pub going_start : (lent : List ℕ) → ((f : Stopped) → Memᴰ f (frames_from th n 0) → (answer R im f).number ≡ 0) → Going lent lent 0 0
  going_start lent h =
      record { most = omega arith; wide = refl; fits = rw (frames-start th n) (omega arith); each = rw (frames-start th n) h; same = rw (frames-start th n) }

  module _ (lent rows : List ℕ) (k to : ℕ) (g : Going lent rows k to) (l : k < n) where
    abbrev f : Stopped
    f = stopped_at th k

    next-count : pointers_in R im (left k) ≡ (answer R im f).count + pointers_in R im (left (k + 1))
    unfolding pointers_in
    next-count = rw (frames_step th n k l)

    next-rows : thread_rows R im k (left k) ≡ rows_of R im f k ++ thread_rows R im (k + 1) (left (k + 1))
    unfolding thread_rows
    next-rows = let z : suc k ≡ k + 1 = omega arith in rw (frames_step th n k l, z)

    -- there is room for the next frame's
    pub going_room : 16 * pointers_in R im (frames_from th n 0) ≤ length lent → to + 16 * (answer R im f).count ≤ length rows
    going_room h = omega (arith, g.fits, g.wide, next-count)

    -- the next frame is accepted
    pub going_yes : (answer R im f).number ≡ 0
    going_yes = g.each f (rw (frames_step th n k l) (Memᴰ.head refl))

    each_on : (h : Stopped) → Memᴰ h (left (k + 1)) → (answer R im h).number ≡ 0
    each_on h m = g.each h (rw (frames_step th n k l) (Memᴰ.tail m))

    pub going_on : (after : List ℕ) (to' : ℕ) → to' ≡ to + 16 * (answer R im f).count → after ≡ sets rows to (rows_of R im f k)
        → Going lent after (k + 1) to'
    going_on after to' e p =
        let d : to + length (rows_of R im f k) ≡ to' = omega (arith, rows-length R im f going_yes k, e) in
        record {
          most = omega arith;
          wide = ap length p ∙ length-sets rows to (rows_of R im f k) ∙ g.wide;
          fits = omega (arith, g.fits, next-count, e);
          each = each_on;
          same = ap (λ (m : List ℕ). sets m to' (thread_rows R im (k + 1) (left (k + 1)))) p
              ∙ ap (λ (m : ℕ). sets (sets rows to (rows_of R im f k)) m (thread_rows R im (k + 1) (left (k + 1)))) (sym d)
              ∙ sym (sets-append rows to (rows_of R im f k) (thread_rows R im (k + 1) (left (k + 1))))
              ∙ ap (sets rows to) (sym next-rows)
              ∙ g.same;
        }

  none_left : (k : ℕ) → n ≤ k → (rows : List ℕ) (to : ℕ) → rows ≡ sets rows to (thread_rows R im k (left k))
  unfolding thread_rows
  none_left k l rows to = rw (frames-end th n k l)

  pub going_end : (lent rows : List ℕ) (k to : ℕ) → Going lent rows k to → n ≤ k → rows ≡ sets lent 0 (thread_rows R im 0 (frames_from th n 0))
  going_end lent rows k to g l = none_left k l rows to ∙ g.same
