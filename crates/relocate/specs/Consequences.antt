-- What else is promised of one move.
use Rattle.std.specs.Prelude.{ℕ, ◌+◌, ◌-◌, ◌%◌, ◌^◌, ◌<◌, ◌≡◌, length, get_or}
use mathlib.Core.List.{List, map, flatten}
use Rattle.wire.specs.Word.{Bytes}
use Rattle.stackmap.specs.Section.{Entry, is_old, read_section}
use Rattle.moves.specs.Limits.{pointer_size}
use Rattle.moves.specs.Slots.{Slot, memory, register}
use Rattle.moves.specs.Window.{In}
use Rattle.relocate.specs.Restore.{Restore}
use Rattle.relocate.specs.Stopped.{Stopped, stopped, cursor}
use Rattle.relocate.specs.Statepoint.{pairs, pointers_of}
use Rattle.relocate.specs.Relocation.{answer, moved, moved_registers, OneRecord, ListedPointer, content_at, new_content_at}

-- Every refusal leaves the image and the registers untouched.
abbrev pub Untouched : Type 0
Untouched = (R : Restore) (im : List ℕ) (f : Stopped) → ((answer R im f).number ≡ 0 → ⊥) → (moved R im f ≡ im) × (moved_registers R im f ≡ f.registers)

-- the frame as a move leaves it
abbrev pub after_move : Restore → List ℕ → Stopped → Stopped
after_move R im f = stopped f.frame (moved_registers R im f)

-- No move changes the frame pointer or the stack pointer, nor how many registers there are: a second move has the same extent and slots.
pub record KeepsCursor : Type 0 where
  pub same_cursor : (R : Restore) (im : List ℕ) (f : Stopped) → cursor (after_move R im f) ≡ cursor f
  pub same_length : (R : Restore) (im : List ℕ) (f : Stopped) → length (moved_registers R im f) ≡ length f.registers

-- An accepted answer has place 0 and the number of its statepoint's pointers, null ones included; a refused one has count 0.
pub record Counts : Type 0 where
  pub accepted : (R : Restore) (im : List ℕ) (f : Stopped) → (answer R im f).number ≡ 0
      → (e : Entry) → OneRecord R.section f.frame e
      → ((answer R im f).place ≡ 0)
      × ((answer R im f).count ≡ length (flatten (map (pointers_of (is_old R.section) (read_section R.section).constants (cursor f)) (pairs e.body))))
  pub refused : (R : Restore) (im : List ℕ) (f : Stopped) → ((answer R im f).number ≡ 0 → ⊥) → (answer R im f).count ≡ 0

-- derived minus base, modulo 2^64, of the slots d and b
abbrev pub distance : Restore → List ℕ → List ℕ → Slot → Slot → ℕ
distance R im rs b d = (content_at R im rs d + (2 ^ 64 - content_at R im rs b)) % 2 ^ 64

-- each register holds a 64-bit number
abbrev pub Words : List ℕ → Type 0
Words rs = (r : ℕ) → get_or rs r 0 < 2 ^ 64

-- For a non-null pointer whose base slot is also listed with itself as base, derived minus base is the same before and after.
abbrev pub KeepsDistance : Type 0
KeepsDistance =
    (R : Restore) (im : List ℕ) (f : Stopped) → Bytes im → Words f.registers → (answer R im f).number ≡ 0
    → (b d : Slot) → ListedPointer R.section f b d → ListedPointer R.section f b b
    → distance R (moved R im f) (moved_registers R im f) b d ≡ distance R im f.registers b d

-- two images, and two lists of a frame's registers, agree on a slot
abbrev pub AgreeOn : Restore → (im im' rs rs' : List ℕ) → Slot → Type 0
AgreeOn R im im' rs rs' (memory a) = (i : ℕ) → In a pointer_size (R.first + i) → get_or im i 0 ≡ get_or im' i 0
AgreeOn R im im' rs rs' (register r) = get_or rs r 0 ≡ get_or rs' r 0

-- they agree on the slots that the frame lists, and the registers on the frame pointer and the stack pointer
pub record AgreeOnSlots (R : Restore) (f : Stopped) (im im' rs' : List ℕ) : Type 0 where
  pub same_length : length im ≡ length im'
  pub same_registers : length f.registers ≡ length rs'
  pub same_cursor : cursor (stopped f.frame rs') ≡ cursor f
  pub on_base : (b d : Slot) → ListedPointer R.section f b d → AgreeOn R im im' f.registers rs' b
  pub on_derived : (b d : Slot) → ListedPointer R.section f b d → AgreeOn R im im' f.registers rs' d

pub record Unaffected (R : Restore) (f : Stopped) (im im' rs' : List ℕ) : Type 0 where
  pub same_answer : answer R im f ≡ answer R im' (stopped f.frame rs')
  pub same_content : (answer R im f).number ≡ 0 → (b d : Slot) → ListedPointer R.section f b d
      → new_content_at R im f.registers b d ≡ new_content_at R im' rs' b d

-- Image bytes outside the listed slots, and registers that are not listed, affect no answer and no new content, of accepted sections and of
-- refused ones.
abbrev pub OnlySlotsCount : Type 0
OnlySlotsCount = (R : Restore) (im im' rs' : List ℕ) (f : Stopped) → AgreeOnSlots R f im im' rs' → Unaffected R f im im' rs'
