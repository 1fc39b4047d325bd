-- The registers of a list's frames, one frame's after another's: each frame's own are the part at its position.
use Prim.Native.Nat.{ℕ, zero, suc, ◌+◌, ◌*◌, ◌/◌, ◌%◌, ◌≤◌, ◌<◌}
use mathlib.Core.Path.{◌≡◌, ◌∙◌}
use mathlib.Core.Bool.{true, ◌&&◌}
use mathlib.Core.List.{List, ◌++◌, map, flatten}
use native.Mathlib.Omega.{arith}
use borrow.Author.Tests.{leb-true, eqb-true}
use lib.Dec.{eqb, leb}
use lib.ListN.{length, take, drop}
use lib.Seq.{take_at, drop-append-add}
use Rattle.stackmap.proofs.Tests.{and_true}
use Rattle.moves.specs.Window.{part}
use Rattle.moves.proofs.Splice.{part_length}
use Rattle.relocate.specs.declared.Frame.{Frame}
use Rattle.relocate.specs.Restore.{Restore}
use Rattle.relocate.specs.Stopped.{Stopped, stopped}
use Rattle.relocate.specs.Relocation.{moved_registers}
use Rattle.relocate.proofs.Consequences.{keeps_cursor}
use Rattle.thread.specs.Thread.{Thread, list_right, frame_at, stopped_at, frames_from}

-- a right list has so many frames, and registers for each of them
pub right_tells : (ns rs : List ℕ) → list_right ns rs ≡ true → (length ns / 2 ≤ 4096) × (length rs ≡ 32 * (length ns / 2))
unfolding list_right
right_tells ns rs h =
    let a = and_true (eqb (length ns % 2) 0) (leb (length ns / 2) 4096 && eqb (length rs) (32 * (length ns / 2))) h in
    let b = and_true (leb (length ns / 2) 4096) (eqb (length rs) (32 * (length ns / 2))) a.1 in
    (leb-true _ _ b.0, eqb-true _ _ b.1)

-- the frame at a position with its part of the registers, as the code lends it
pub stopped-at : (t : Thread) (k n : ℕ) (f : Frame) → f ≡ frame_at t.machine t.list k → n ≡ 32
    → stopped f (take n (drop (32 * k) t.registers)) ≡ stopped_at t k
unfolding stopped_at
stopped-at t k n f e h = rw (e, h)

-- a frame's own registers, before its move and after it
pub own_registers : (t : Thread) (n k : ℕ) → length t.registers ≡ 32 * n → k < n → length (stopped_at t k).registers ≡ 32
unfolding stopped_at
own_registers t n k e l = part_length t.registers (32 * k) 32 (omega arith)

pub moved-registers : (R : Restore) (im : List ℕ) (t : Thread) (n k : ℕ) → length t.registers ≡ 32 * n → k < n
    → length (moved_registers R im (stopped_at t k)) ≡ 32
moved-registers R im t n k e l = keeps_cursor.same_length R im (stopped_at t k) ∙ own_registers t n k e l

-- lists of 32, one after another
past : (xs ys : List ℕ) (n m : ℕ) → length xs ≡ n → drop (n + m) (xs ++ ys) ≡ drop m ys
past xs ys n m e = rw (← e) (drop-append-add xs ys m)

pub part_of : (g : Stopped → List ℕ) (t : Thread) (n i k : ℕ) → ((j : ℕ) → i ≤ j → j < i + n → length (g (stopped_at t j)) ≡ 32) → k < n
    → part (flatten (map g (frames_from t n i))) (32 * k) 32 ≡ g (stopped_at t (i + k))
unfolding flatten
part_of g t zero i k w l = absurd (omega arith)
part_of g t (suc n) i zero w l =
    let z : i + 0 ≡ i = omega arith in
    rw z (take_at (g (stopped_at t i)) _ 32 (w i (omega arith) (omega arith)))
part_of g t (suc n) i (suc k) w l =
    let z : 32 * suc k ≡ 32 + 32 * k = omega arith in
    let y : i + suc k ≡ suc i + k = omega arith in
    rw (z, y, past (g (stopped_at t i)) (flatten (map g (frames_from t n (suc i)))) 32 (32 * k) (w i (omega arith) (omega arith)))
    (part_of g t n (suc i) k (λ j p q. w j (omega arith) (omega arith)) (omega arith))
