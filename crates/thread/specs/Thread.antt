-- A whole thread in one call: document 02, requests 1, 2, 6 and 7. All frames of the list move, with their registers, or none does.
use Rattle.std.specs.Prelude.{ℕ, zero, suc, ◌+◌, ◌*◌, ◌/◌, ◌%◌, Bool, cond, ◌&&◌, ◌||◌, false, eqb, ltb, leb, length, get_or}
use mathlib.Core.List.{List, [], ◌∷◌, map, flatten}
use Rattle.stackmap.specs.Verdict.{need}
use Rattle.stackmap.specs.Check.{section_check}
use Rattle.questions.specs.Questions.{ask}
use Rattle.moves.specs.declared.Move.{Move}
use Rattle.moves.specs.Table.{table_right}
use Rattle.moves.specs.Window.{part}
use Rattle.moves.specs.Settle.{refused_move, accepted_move}
use Rattle.relocate.specs.declared.Frame.{Frame}
use Rattle.relocate.specs.declared.Machine.{Machine}
use Rattle.relocate.specs.Limits.{register_count}
use Rattle.relocate.specs.Restore.{Restore, allowed}
use Rattle.relocate.specs.Stopped.{Stopped, stopped}
use Rattle.relocate.specs.Plan.{image_right}
use Rattle.relocate.specs.Relocation.{answer, Extent, extent_of}
use Rattle.relocate.specs.Lists.{final, final_registers}

-- A thread has one machine, a list of its frames, two numbers a frame, address and function number, and one list of their registers, 32 numbers
-- a frame. In version 1 the address is the offset in that function; in version 3 the function number isn't read.
pub record Thread : Type 0 where
  pub machine : Machine
  pub list : List ℕ
  pub registers : List ℕ

abbrev pub thread_of : Machine → List ℕ → List ℕ → Thread
thread_of m ns rs = record { machine = m; list = ns; registers = rs }

abbrev pub frames_most : ℕ
frames_most = 4096

abbrev pub frame_numbers : ℕ
frame_numbers = 2

-- 25: the first list's length is odd, it holds over 4,096 frames, or the second isn't 32 times as many
unfoldable pub list_right : List ℕ → List ℕ → Bool
list_right ns rs =
    let frames = length ns / frame_numbers in
    eqb (length ns % frame_numbers) 0 && (leb frames frames_most && eqb (length rs) (register_count * frames))

-- the frame at a position, counted from 0, and the same with its own registers
unfoldable pub frame_at : Machine → List ℕ → ℕ → Frame
frame_at m ns k = record { machine = m; address = get_or ns (frame_numbers * k) 0; function = get_or ns (frame_numbers * k + 1) 0 }

unfoldable pub stopped_at : Thread → ℕ → Stopped
stopped_at t k = stopped (frame_at t.machine t.list k) (part t.registers (register_count * k) register_count)

-- n frames, from the position k on
abbrev pub frames_from : Thread → ℕ → ℕ → List Stopped
frames_from t zero k = []
frames_from t (suc n) k = stopped_at t k ∷ frames_from t n (suc k)

unfoldable pub frames_of : Thread → List Stopped
frames_of t = frames_from t (length t.list / frame_numbers) 0

-- the stretches of memory from a up to b and from c up to d share a byte: neither is empty, and each begins before the other ends
unfoldable pub share : ℕ → ℕ → ℕ → ℕ → Bool
share a b c d = ltb a b && (ltb c d && (ltb a d && ltb c b))

-- an extent shares a byte with one of these
abbrev pub shares_one : Extent → List Extent → Bool
shares_one x [] = false
shares_one x (y ∷ ys) = share x.start x.end y.start y.end || shares_one x ys

-- The call. The image and the registers are those that were lent.

-- go on after an accepted frame; the number of a refused one is given with its position
unfoldable pub passes : Move → ℕ → Move → Move
passes m i k = need (eqb m.number 0) (refused_move m.number i) k

-- 26 at the first frame whose extent shares a byte with an earlier one's; those of `earlier` are before the position i
unfoldable pub apart : ℕ → List Extent → List Extent → Move → Move
apart i earlier [] k = k
apart i earlier (x ∷ xs) k =
    let r = apart (suc i) (x ∷ earlier) xs k in
    cond (shares_one x earlier) (refused_move 26 i) r

module _ (R : Restore) (im : List ℕ) where
  -- the first refused frame's number with its position; each frame is judged by itself, and the first of these has the position i
  unfoldable pub judged : ℕ → List Stopped → Move → Move
  judged i [] k = k
  judged i (f ∷ fs) k = passes (answer R im f) i (judged (suc i) fs k)

  -- the sum of the pointers, null ones included
  unfoldable pub pointers_in : List Stopped → ℕ
  pointers_in [] = 0
  pointers_in (f ∷ fs) = (answer R im f).count + pointers_in fs

  -- 1 to 9, 33, 13, 14, 25, then the frames, then 26
  unfoldable pub thread_answer : Thread → Move
  thread_answer t =
      ask refused_move
      (need (allowed R t.machine) (refused_move 33 0)
      (need (image_right R.first (length im)) (refused_move 13 0)
      (need (table_right R.olds R.news) (refused_move 14 0)
      (need (list_right t.list t.registers) (refused_move 25 0)
      (judged 0 (frames_of t)
      (apart 0 [] (map (extent_of R.section) (frames_of t))
      (accepted_move (pointers_in (frames_of t)))))))))
      (section_check R.section)

  -- the image got frame by frame in list order, or the image as lent
  unfoldable pub thread_image : Thread → List ℕ
  thread_image t = cond (eqb (thread_answer t).number 0) (final R (frames_of t) im) im

  -- and each frame's registers, in list order; or the registers as lent
  unfoldable pub thread_registers : Thread → List ℕ
  thread_registers t = cond (eqb (thread_answer t).number 0) (flatten (final_registers R (frames_of t) im)) t.registers
