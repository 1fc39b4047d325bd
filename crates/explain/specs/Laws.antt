-- What ties the reasons to the move.
use Rattle.std.specs.Prelude.{ℕ, ◌+◌, ◌-◌, ◌%◌, ◌^◌, ◌≤◌, ◌≡◌, false, List}
use Rattle.wire.specs.Word.{Bytes}
use Rattle.moves.specs.Slots.{Slot, memory, register, overlap}
use Rattle.relocate.specs.Restore.{Restore}
use Rattle.relocate.specs.Stopped.{Stopped, stopped}
use Rattle.relocate.specs.Relocation.{answer, moved, moved_registers, ListedPointer, content_at}
use Rattle.relocate.specs.Consequences.{Words, AgreeOnSlots}
use Rattle.explain.specs.declared.Reason.{Reason}
use Rattle.explain.specs.declared.Reason.TheVariants.{Unlisted, OnlyBase, NullBase, Moved, Refused}
use Rattle.explain.specs.Explain.{explained}

-- It says refused exactly when the move refuses, with the same number and place.
pub record SaysRefused : Type 0 where
  pub when_refused : (R : Restore) (im : List ℕ) (f : Stopped) (x : Slot) → ((answer R im f).number ≡ 0 → ⊥)
      → explained R im f x ≡ Refused (answer R im f).number (answer R im f).place
  pub only_refused : (R : Restore) (im : List ℕ) (f : Stopped) (x : Slot) (n p : ℕ) → explained R im f x ≡ Refused n p
      → (answer R im f).number ≡ 0 → ⊥

-- the slot is a derived slot of the frame
pub record Derived (R : Restore) (f : Stopped) (x : Slot) : Type 0 where
  pub base : Slot
  pub lists : ListedPointer R.section f base x

abbrev pub IsMoved : Reason → Type 0
IsMoved Unlisted = ⊥
IsMoved OnlyBase = ⊥
IsMoved NullBase = Unit {0}
IsMoved (Moved p o n) = Unit {0}
IsMoved (Refused n p) = ⊥

-- It says moved or null base exactly for the derived slots of an accepted frame.
pub record SaysDerived : Type 0 where
  pub when_derived : (R : Restore) (im : List ℕ) (f : Stopped) (x : Slot) → (answer R im f).number ≡ 0 → Derived R f x → IsMoved (explained R im f x)
  pub only_derived : (R : Restore) (im : List ℕ) (f : Stopped) (x : Slot) → IsMoved (explained R im f x) → Derived R f x

-- what a reason says of the slot's new content, by its old one; of a refusal, and of a slot that the move does not list, nothing
abbrev pub NewContent : Reason → ℕ → ℕ → Type 0
NewContent Unlisted old new = Unit {0}
NewContent OnlyBase old new = Unit {0}
NewContent NullBase old new = new ≡ old
NewContent (Moved p base to) old new = new ≡ (old + to + (2 ^ 64 - base)) % 2 ^ 64
NewContent (Refused n p) old new = new ≡ old

-- Then the move leaves old content + new base - old base there; a null base leaves it as it was, and so does a refusal.
abbrev pub SaysContent : Type 0
SaysContent =
    (R : Restore) (im : List ℕ) (f : Stopped) (x : Slot) → Bytes im → Words f.registers
    → NewContent (explained R im f x) (content_at R im f.registers x) (content_at R (moved R im f) (moved_registers R im f) x)

-- a slot in memory does not begin before the image
abbrev pub NotBefore : Restore → Slot → Type 0
NotBefore R (memory a) = R.first ≤ a
NotBefore R (register r) = Unit {0}

-- For every other reason the move leaves the slot's content as it was, where no derived slot covers a part of it.
abbrev pub Stays : Type 0
Stays =
    (R : Restore) (im : List ℕ) (f : Stopped) (x : Slot) → NotBefore R x → (IsMoved (explained R im f x) → ⊥)
    → ((b d : Slot) → ListedPointer R.section f b d → overlap d x ≡ false)
    → content_at R (moved R im f) (moved_registers R im f) x ≡ content_at R im f.registers x

-- It depends on nothing that the move doesn't read.
abbrev pub ReadsAsMove : Type 0
ReadsAsMove =
    (R : Restore) (im im' rs' : List ℕ) (f : Stopped) (x : Slot) → AgreeOnSlots R f im im' rs'
    → explained R im f x ≡ explained R im' (stopped f.frame rs') x

pub record Explains : Type 0 where
  pub says_refused : SaysRefused
  pub says_derived : SaysDerived
  pub says_content : SaysContent
  pub stays : Stays
  pub reads_as_move : ReadsAsMove
