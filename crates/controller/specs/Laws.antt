-- What is shown of the controller's moves and threads.
use Rattle.std.specs.Prelude.{ℕ, ◌≤◌, ◌≡◌, true}
use mathlib.Core.List.{List, map, Permᴰ}
use Rattle.stackmap.specs.Verdict.{Refused}
use Rattle.moves.specs.Settle.{refused_move}
use Rattle.relocate.specs.Restore.{Restore}
use Rattle.relocate.specs.Stopped.{Stopped}
use Rattle.relocate.specs.Relocation.{answer, moved, moved_registers}
use Rattle.relocate.specs.Lists.{final, Disjoint, Holds}
use Rattle.thread.specs.Thread.{Thread, thread_answer, thread_image, thread_registers}
use Rattle.thread.specs.Theorems.{Movable, ByFrames, SameCall}
use Rattle.thread.specs.Thread.{list_right, frames_of}
use Rattle.controller.specs.Profile.{pointers_most, profile_check}
use Rattle.controller.specs.Controller.{controller_answer, controller_image, controller_registers, controller_thread_answer, controller_thread_image, controller_thread_registers}
use Rattle.controller.specs.Lists.{controller_answers, controller_final, controller_final_registers, in_profile, taken}
use Rattle.controller.specs.Worked.{WorkedProfile}

-- 0. The section's own refusals and 50 come before 33 and all else, whatever settings, image, table and registers are.
pub record ProfileFirst : Type 0 where
  pub frame : (R : Restore) (im : List ℕ) (f : Stopped) (n p : ℕ) → profile_check f.frame.machine R.section ≡ Refused n p
      → controller_answer R im f ≡ refused_move n p
  pub thread : (R : Restore) (im : List ℕ) (t : Thread) (n p : ℕ) → profile_check t.machine R.section ≡ Refused n p
      → controller_thread_answer R im t ≡ refused_move n p

-- 1. What the profile takes is moved exactly as the base does; nothing else is accepted, and a refusal changes nothing.
pub record AsBase : Type 0 where
  pub same_answer : (R : Restore) (im : List ℕ) (f : Stopped) → in_profile R.section f.frame.machine ≡ true → controller_answer R im f ≡ answer R im f
  pub same_image : (R : Restore) (im : List ℕ) (f : Stopped) → in_profile R.section f.frame.machine ≡ true → controller_image R im f ≡ moved R im f
  pub same_registers : (R : Restore) (im : List ℕ) (f : Stopped) → in_profile R.section f.frame.machine ≡ true
      → controller_registers R im f ≡ moved_registers R im f
  pub only_taken : (R : Restore) (im : List ℕ) (f : Stopped) → (controller_answer R im f).number ≡ 0 → in_profile R.section f.frame.machine ≡ true
  pub untouched : (R : Restore) (im : List ℕ) (f : Stopped) → ((controller_answer R im f).number ≡ 0 → ⊥)
      → (controller_image R im f ≡ im) × (controller_registers R im f ≡ f.registers)

-- 2. 12, 15 and 18 can't be given any more, and 17 only under an edition with fewer than 16 pointers.
pub record Excluded (R : Restore) (number : ℕ) : Type 0 where
  pub not_12 : number ≡ 12 → ⊥
  pub not_15 : number ≡ 15 → ⊥
  pub not_18 : number ≡ 18 → ⊥
  pub not_17 : pointers_most ≤ R.settings.most → number ≡ 17 → ⊥

abbrev pub NeverGives : Type 0
NeverGives = (R : Restore) (im : List ℕ) (f : Stopped) → Excluded R (controller_answer R im f).number

-- 3. Demand 3: each answer, and each frame's registers after the list, are those of its plain move. The final image is the base's for the frames
-- that the profile takes, of which demand 3 tells every byte; a section that doesn't keep the profile takes none, and the image is untouched.
pub record ControllerHolds (R : Restore) (im : List ℕ) (fs : List Stopped) : Type 0 where
  pub plain : controller_answers R fs im ≡ map (controller_answer R im) fs
  pub plain_registers : controller_final_registers R fs im ≡ map (controller_registers R im) fs
  pub image_is : controller_final R fs im ≡ final R (taken R.section fs) im
  pub bytes_are : Holds R im (taken R.section fs)

abbrev pub ControllerDemand3 : Type 0
ControllerDemand3 = (R : Restore) (im : List ℕ) (fs : List Stopped) → Disjoint R.section fs → ControllerHolds R im fs

-- and the order of the moves doesn't count
abbrev pub ControllerOrderFree : Type 0
ControllerOrderFree =
    (R : Restore) (im : List ℕ) (fs gs : List Stopped) → Permᴰ fs gs → Disjoint R.section fs
    → ControllerHolds R im gs × (controller_final R fs im ≡ controller_final R gs im)

-- 4. A thread: one instant or none.
pub record SameThread (R : Restore) (im : List ℕ) (t : Thread) : Type 0 where
  pub same_answer : controller_thread_answer R im t ≡ thread_answer R im t
  pub same_image : controller_thread_image R im t ≡ thread_image R im t
  pub same_registers : controller_thread_registers R im t ≡ thread_registers R im t

pub record ControllerOneInstant : Type 0 where
  -- what the profile takes is the base's call
  pub same_call : (R : Restore) (im : List ℕ) (t : Thread) → in_profile R.section t.machine ≡ true → SameThread R im t
  -- a call is accepted only if the profile takes it and its frames are movable
  pub accepted_only : (R : Restore) (im : List ℕ) (t : Thread) → (controller_thread_answer R im t).number ≡ 0
      → (in_profile R.section t.machine ≡ true) × Movable R im t
  -- then image and registers are those got frame by frame
  pub frame_by_frame : (R : Restore) (im : List ℕ) (t : Thread) → in_profile R.section t.machine ≡ true → Movable R im t → SameThread R im t × ByFrames R im t
  -- in every other case they are untouched
  pub or_none : (R : Restore) (im : List ℕ) (t : Thread) → ((controller_thread_answer R im t).number ≡ 0 → ⊥)
      → (controller_thread_image R im t ≡ im) × (controller_thread_registers R im t ≡ t.registers)
  -- and the order of the frames doesn't count
  pub any_order : (R : Restore) (im : List ℕ) (t t' : Thread) → (controller_thread_answer R im t).number ≡ 0 → t'.machine ≡ t.machine
      → list_right t'.list t'.registers ≡ true → Permᴰ (frames_of t) (frames_of t') → SameThread R im t × SameThread R im t' × SameCall R im t t'

pub record ControllerLaws : Type 0 where
  pub profile_first : ProfileFirst
  pub as_base : AsBase
  pub never_gives : NeverGives
  pub demand3 : ControllerDemand3
  pub order_free : ControllerOrderFree
  pub one_instant : ControllerOneInstant
  -- and the worked sections
  pub worked : WorkedProfile
