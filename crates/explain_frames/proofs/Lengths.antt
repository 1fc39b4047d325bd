-- How many numbers the rows of a thread's frames are.
use Prim.Native.Nat.{ℕ, suc, ◌*◌}
use mathlib.Core.Path.{◌≡◌, refl, ◌∙◌}
use mathlib.Core.List.{List, [], ◌∷◌, Memᴰ}
use native.Mathlib.Omega.{arith}
use lib.ListN.{length, length-append}
use Rattle.relocate.specs.Restore.{Restore}
use Rattle.relocate.specs.Stopped.{Stopped}
use Rattle.relocate.specs.Relocation.{answer}
use Rattle.thread.specs.Thread.{pointers_in}
use Rattle.explain.specs.Rows.{rows_of}
use Rattle.explain_laws.proofs.Lengths.{rows-length}
use Rattle.explain_frames.specs.Rows.{thread_rows}

pub thread-length : (R : Restore) (im : List ℕ) (k : ℕ) (fs : List Stopped) → ((f : Stopped) → Memᴰ f fs → (answer R im f).number ≡ 0)
    → length (thread_rows R im k fs) ≡ 16 * pointers_in R im fs
unfolding thread_rows pointers_in
thread-length R im k [] h = refl
thread-length R im k (f ∷ fs) h =
    length-append (rows_of R im f k) (thread_rows R im (suc k) fs)
    ∙ omega (arith, rows-length R im f (h f (Memᴰ.head refl)) k, thread-length R im (suc k) fs (λ g m. h g (Memᴰ.tail m)))
