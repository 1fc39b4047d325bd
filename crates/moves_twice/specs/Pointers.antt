-- For the code alone: nothing here has to be believed.
-- What two moves of one window ask of its pointers and numbers; relocate_twice says it of a frame.
use Rattle.std.specs.Prelude.{ℕ, ◌^◌, ◌<◌, get_or}
use Rattle.std.proofs.Math.Option.{Option, none, some}
use mathlib.Core.List.{List, Memᴰ}
use Rattle.moves.specs.Slots.{Slot}
use Rattle.moves.specs.Pointers.{Pointer, slots}

-- one lookup after the other: there if both are
abbrev pub and_then : Option ℕ → (ℕ → Option ℕ) → Option ℕ
and_then none second = none
and_then (some n) second = second n

-- every pointer's base slot is also listed with itself
abbrev pub SelfListed : List Pointer → Type 0
SelfListed ps = (b d : Slot) → Memᴰ (slots b d) ps → Memᴰ (slots b b) ps

-- every element is a 64-bit number
pub record Words (s : List ℕ) : Type 0 where
  pub below : (i : ℕ) → get_or s i 0 < 2 ^ 64
