-- What a frame is before any byte of the image is read, and what its move does to an image and the frame's registers.
use Rattle.std.specs.Prelude.{ℕ, suc, ◌-◌, cond, eqb, ltb, length}
use Rattle.std.proofs.Math.Option.{Option}
use mathlib.Core.List.{List, [], ◌∷◌, flatten}
use Rattle.moves.specs.declared.Move.{Move}
use Rattle.moves.specs.Window.{part, splice}
use Rattle.moves.specs.Slots.{state}
use Rattle.moves.specs.Pointers.{Pointer}
use Rattle.moves.specs.Settle.{refused_move, settled, settle}

-- refused, with number and place; or a window of the image, by its first byte and its size, with the pointers of each pair
pub data Plan : Type 0 where
  refuse : ℕ → ℕ → Plan
  window : ℕ → ℕ → List (List Pointer) → Plan

-- the number of the pair that pointer number i is of
unfoldable pub pair_of : List (List Pointer) → ℕ → ℕ
pair_of [] i = 0
pair_of (ps ∷ pss) i = let r = pair_of pss (i - length ps) in cond (ltb i (length ps)) 0 (suc r)

-- a refusal at a pointer is one at its pair
abbrev pub at_pair : List (List Pointer) → Move → Move
at_pair pss m = record { number = m.number; place = cond (eqb m.number 0) 0 (pair_of pss m.place); count = m.count }

-- its answer on an image, with these registers
abbrev pub says : (ℕ → Option ℕ) → List ℕ → List ℕ → Plan → Move
says table im rs (refuse n p) = refused_move n p
says table im rs (window off size pss) = at_pair pss (settled table (flatten pss) (state (part im off size) rs))

-- the image that it leaves: the window is the only part that may be written
abbrev pub leaves : (ℕ → Option ℕ) → List ℕ → List ℕ → Plan → List ℕ
leaves table im rs (refuse n p) = im
leaves table im rs (window off size pss) = splice im off size (settle table (flatten pss) (state (part im off size) rs)).window

-- the registers that it leaves
abbrev pub leaves_registers : (ℕ → Option ℕ) → List ℕ → List ℕ → Plan → List ℕ
leaves_registers table im rs (refuse n p) = rs
leaves_registers table im rs (window off size pss) = (settle table (flatten pss) (state (part im off size) rs)).registers
