-- A cell is our own word: one byte of the window, or one register. What a move leaves is told cell by cell.
use Prim.Native.Nat.{ℕ, ◌+◌, ◌-◌, ◌≤◌, ◌<◌}
use mathlib.Core.Path.{◌≡◌}
use mathlib.Core.Logic.{◌⊎◌, inl, inr}
use native.Mathlib.Decide.{ℕ_discrete}
use lib.ListN.{length, get_or}
use Rattle.wire.specs.Word.{bytes}
use Rattle.moves.specs.Window.{In}
use Rattle.moves.specs.Slots.{Slot, memory, register, State}
use Rattle.moves.proofs.Splice.{in?}

pub data Cell : Type 0 where
  byte : ℕ → Cell
  whole : ℕ → Cell

abbrev pub at : State → Cell → ℕ
at w (byte i) = get_or w.window i 0
at w (whole r) = get_or w.registers r 0

-- the cell is one of the slot
abbrev pub Touches : Slot → Cell → Type 0
Touches (memory x) (byte i) = In x 8 i
Touches (memory x) (whole q) = ⊥
Touches (register r) (byte i) = ⊥
Touches (register r) (whole q) = q ≡ r

pub touches? : (s : Slot) (c : Cell) → Touches s c ⊎ (Touches s c → ⊥)
touches? (memory x) (byte i) = in? x 8 i
touches? (memory x) (whole k) = inr (λ q. q)
touches? (register r) (byte i) = inr (λ q. q)
touches? (register r) (whole k) = go (ℕ_discrete k r)
  where
    go : Dec (k ≡ r) → (k ≡ r) ⊎ (k ≡ r → ⊥)
    go (yes e) = inl e
    go (no e) = inr e

-- what a number in a slot shows at a cell of it
abbrev pub piece : ℕ → Slot → Cell → ℕ
piece v (memory x) (byte i) = get_or (bytes 8 v) (i - x) 0
piece v (memory x) (whole q) = v
piece v (register r) c = v

-- the slot is one of a window of n bytes, or of m registers
abbrev pub SlotIn : ℕ → ℕ → Slot → Type 0
SlotIn n m (memory x) = x + 8 ≤ n
SlotIn n m (register r) = r < m

abbrev pub Fits : State → Slot → Type 0
Fits w s = SlotIn (length w.window) (length w.registers) s
