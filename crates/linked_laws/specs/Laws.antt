-- An accepted thread's call over a linked section is one instant: it is the plain moves of its frames, each by its own map, in any order.
use Rattle.std.specs.Prelude.{ℕ, ◌≤◌, ◌<◌, ◌≡◌}
use mathlib.Core.List.{List, [], ◌∷◌, map, flatten, Memᴰ, Permᴰ}
use Rattle.relocate.specs.Restore.{Restore}
use Rattle.relocate.specs.Stopped.{Stopped}
use Rattle.linked.specs.Linked.{Map, cut, maps}
use Rattle.thread.specs.Thread.{Thread, frames_of}
use Rattle.linked_moves.specs.Thread.{answer_over, moved_registers_over, extent_over, final_over, linked_answer, linked_image, linked_registers}

-- the byte at the address a is in the extent of the frame f, by its own map
pub record InExtentOver (ms : List Map) (f : Stopped) (a : ℕ) : Type 0 where
  pub low : (extent_over ms f).start ≤ a
  pub high : a < (extent_over ms f).end

-- no two frames have extents that share a byte
abbrev pub DisjointOver : List Map → List Stopped → Type 0
DisjointOver ms [] = Unit {0}
DisjointOver ms (f ∷ fs) = ((g : Stopped) → Memᴰ g fs → (a : ℕ) → InExtentOver ms f a → InExtentOver ms g a → ⊥) × DisjointOver ms fs

-- each frame is accepted by itself on the starting image, by its own map, and no two extents share a byte; each frame's registers are those of
-- its plain move on the starting image; and the image is that of the frames' plain moves one after another, in any order
pub record ByFrames (R : Restore) (im : List ℕ) (t : Thread) (ms : List Map) : Type 0 where
  pub each : (f : Stopped) → Memᴰ f (frames_of t) → (answer_over R ms im f).number ≡ 0
  pub disjoint : DisjointOver ms (frames_of t)
  pub registers_are : linked_registers R im t ≡ flatten (map (moved_registers_over R ms im) (frames_of t))
  pub image_is : (fs : List Stopped) → Permᴰ (frames_of t) fs → linked_image R im t ≡ final_over R ms fs im

abbrev pub FrameByFrame : Type 0
FrameByFrame =
    (R : Restore) (im : List ℕ) (t : Thread) (ms : List Map) → cut R.section ≡ maps ms → (linked_answer R im t).number ≡ 0 → ByFrames R im t ms
