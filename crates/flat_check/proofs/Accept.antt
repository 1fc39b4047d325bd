-- What an accepted section's arrays and ranges are.
use Prim.Native.Nat.{ℕ, ◌+◌, ◌*◌, ◌≤◌, ◌<◌}
use mathlib.Core.Path.{◌≡◌}
use mathlib.Core.Bool.{Bool, true}
use mathlib.Core.List.{List}
use native.Mathlib.Omega.{arith}
use borrow.Author.Tests.{leb-true}
use lib.ListN.{length}
use Rattle.flat.specs.Places.{range_end, frames_at, num_frames, num_records, offsets_right}
use Rattle.flat.proofs.Steps.{and_true, every-told}
use Rattle.flat.proofs.Arrays.{Arranged, arranged, right-told}
use Rattle.flat.specs.Places.{along, frame_inside}
use Rattle.flat_check.specs.Check.{ranges_right, Accepted}
use Rattle.flat_check.proofs.Chain.{Told, accepted-told}

pub right_arranged : (s : List ℕ) → offsets_right s ≡ true → Arranged s
right_arranged s h = arranged s (right-told s h)

pub told_arranged : (s : List ℕ) → Told s → Arranged s
told_arranged s t = right_arranged s t.offsets

pub accepted_least : (s : List ℕ) → Accepted s → 32 ≤ length s
accepted_least s h = (accepted-told s h).least

pub accepted_arranged : (s : List ℕ) → Accepted s → Arranged s
accepted_arranged s h = told_arranged s (accepted-told s h)

-- a test along an array tells of each item
pub along-told : (test : ℕ → Bool) (at step n : ℕ) → along test at step n ≡ true → (i : ℕ) → i < n → test (at + step * i) ≡ true
unfolding along
along-told test at step n h i l = every-told (λ k. test (at + step * k)) 0 n h i (omega arith) (omega arith)

-- the records of a frame are inside
pub frame_range : (s : List ℕ) → Told s → (i : ℕ) → i < num_frames s
    → range_end s (frames_at s + 28 * i + 26) (frames_at s + 28 * i + 24) ≤ num_records s
unfolding ranges_right
frame_range s t i l =
    leb-true _ _ (along-told (frame_inside s (num_records s)) (frames_at s) 28 (num_frames s) (and_true _ _ t.ranges).0 i l)
