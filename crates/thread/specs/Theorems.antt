-- What is shown of a thread's call: one instant or none, of the image and of the registers.
use Rattle.std.specs.Prelude.{ℕ, ◌+◌, ◌*◌, ◌/◌, ◌<◌, ◌≡◌, true, length}
use mathlib.Core.List.{List, [], ◌∷◌, map, flatten, Memᴰ, Permᴰ}
use Rattle.stackmap.specs.Check.{Accepted}
use Rattle.moves.specs.declared.Move.{Move}
use Rattle.moves.specs.Table.{table_right}
use Rattle.moves.specs.Window.{part}
use Rattle.moves.specs.Settle.{accepted_move}
use Rattle.relocate.specs.Limits.{register_count}
use Rattle.relocate.specs.Restore.{Restore, allowed}
use Rattle.relocate.specs.Stopped.{Stopped}
use Rattle.relocate.specs.Plan.{image_right}
use Rattle.relocate.specs.Relocation.{answer, moved_registers}
use Rattle.relocate.specs.Lists.{answers, final, final_registers, Disjoint, Holds}
use Rattle.thread.specs.Thread.{Thread, frame_numbers, list_right, stopped_at, frames_of, thread_answer, thread_image, thread_registers}

-- every frame is accepted by itself on the starting image, and no two extents share a byte
pub record Movable (R : Restore) (im : List ℕ) (t : Thread) : Type 0 where
  pub section_right : Accepted R.section
  pub allowed_right : allowed R t.machine ≡ true
  pub image_right : image_right R.first (length im) ≡ true
  pub table_right : table_right R.olds R.news ≡ true
  pub list_right : list_right t.list t.registers ≡ true
  pub each : (f : Stopped) → Memᴰ f (frames_of t) → (answer R im f).number ≡ 0
  pub disjoint : Disjoint R.section (frames_of t)

-- the counts of these answers, added
abbrev pub total : List Move → ℕ
total [] = 0
total (m ∷ ms) = m.count + total ms

-- 1. A call is accepted only if its frames are movable; that it is then, is 2.
abbrev pub AcceptedOnly : Type 0
AcceptedOnly = (R : Restore) (im : List ℕ) (t : Thread) → (thread_answer R im t).number ≡ 0 → Movable R im t

-- the registers of each frame's plain move, on the starting image and with the frame's own registers as lent
abbrev pub plain_registers : Restore → List ℕ → Thread → List ℕ
plain_registers R im t = flatten (map (moved_registers R im) (frames_of t))

-- 2. Then image and registers equal those got frame by frame in list order, each of these moves is accepted, and the answer is 0 and the
-- sum of the pointers.
pub record ByFrames (R : Restore) (im : List ℕ) (t : Thread) : Type 0 where
  pub image_is : thread_image R im t ≡ final R (frames_of t) im
  pub registers_is : thread_registers R im t ≡ flatten (final_registers R (frames_of t) im)
  pub each_accepted : (m : Move) → Memᴰ m (answers R (frames_of t) im) → m.number ≡ 0
  pub answer_is : thread_answer R im t ≡ accepted_move (total (answers R (frames_of t) im))
  -- every byte of the image and every register are fixed by the starting image and registers, as demand 3 says
  pub bytes_are : Holds R im (frames_of t)
  pub registers_are : thread_registers R im t ≡ plain_registers R im t
  -- so that the 32 numbers at a frame's position are those of its plain move
  pub registers_at : (k : ℕ) → k < length t.list / frame_numbers
      → part (thread_registers R im t) (register_count * k) register_count ≡ moved_registers R im (stopped_at t k)

abbrev pub FrameByFrame : Type 0
FrameByFrame = (R : Restore) (im : List ℕ) (t : Thread) → Movable R im t → ByFrames R im t

-- 3. In every other case image and registers are untouched.
abbrev pub OrNone : Type 0
OrNone =
    (R : Restore) (im : List ℕ) (t : Thread) → ((thread_answer R im t).number ≡ 0 → ⊥)
    → (thread_image R im t ≡ im) × (thread_registers R im t ≡ t.registers)

-- 4. The order of the frames changes neither answer nor image of an accepted call, and each frame's registers are its plain move's in either order.
pub record SameCall (R : Restore) (im : List ℕ) (t t' : Thread) : Type 0 where
  pub same_answer : thread_answer R im t ≡ thread_answer R im t'
  pub same_image : thread_image R im t ≡ thread_image R im t'
  pub registers_are : thread_registers R im t ≡ plain_registers R im t
  pub other_registers_are : thread_registers R im t' ≡ plain_registers R im t'

abbrev pub AnyOrder : Type 0
AnyOrder =
    (R : Restore) (im : List ℕ) (t t' : Thread) → (thread_answer R im t).number ≡ 0 → t'.machine ≡ t.machine → list_right t'.list t'.registers ≡ true
    → Permᴰ (frames_of t) (frames_of t') → SameCall R im t t'

pub record OneInstant : Type 0 where
  pub accepted_only : AcceptedOnly
  pub frame_by_frame : FrameByFrame
  pub or_none : OrNone
  pub any_order : AnyOrder
