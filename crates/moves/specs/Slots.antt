-- Slots in memory and in registers: what they hold, which are equal, and which overlap.
use Rattle.std.specs.Prelude.{ℕ, ◌+◌, Bool, false, not, ◌&&◌, List, eqb, ltb, get_or, set}
use Rattle.std.proofs.lemmas.List.Edits.{sets}
use Rattle.wire.specs.Word.{word, bytes}
use Rattle.moves.specs.Limits.{pointer_size}

-- A slot is the bytes of one pointer in the frame's window, by the first of them, counted from the window's; or it is a register, by its
-- number.
pub data Slot : Type 0 where
  memory : ℕ → Slot
  register : ℕ → Slot

-- what a move may read and write: the bytes of the frame's window, and the frame's registers by number
pub record State : Type 0 where
  pub window : List ℕ
  pub registers : List ℕ

abbrev pub state : List ℕ → List ℕ → State
state w rs = record { window = w; registers = rs }

-- two slots are the same: a register equals only itself
unfoldable pub same : Slot → Slot → Bool
same (memory x) (memory y) = eqb x y
same (memory x) (register r) = false
same (register r) (memory x) = false
same (register r) (register q) = eqb r q

-- two slots share a byte and are not the same: a register never overlaps memory
unfoldable pub overlap : Slot → Slot → Bool
overlap (memory x) (memory y) = not (eqb x y) && (ltb x (y + pointer_size) && ltb y (x + pointer_size))
overlap (memory x) (register r) = false
overlap (register r) (memory x) = false
overlap (register r) (register q) = false

-- the number in a slot
abbrev pub read : State → Slot → ℕ
read w (memory x) = word pointer_size w.window x
read w (register r) = get_or w.registers r 0

-- a slot with a number in it
abbrev pub put : State → Slot → ℕ → State
put w (memory x) v = state (sets w.window x (bytes pointer_size v)) w.registers
put w (register r) v = state w.window (set w.registers r v)
