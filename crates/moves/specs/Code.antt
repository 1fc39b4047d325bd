-- For the code alone: nothing here has to be believed.
-- A window that is moved, or is only judged.
use Rattle.std.specs.Prelude.{ℕ, ◌≡◌, Bool, true, false, List}
use Rattle.std.proofs.Math.Option.{Option}
use Rattle.moves.specs.declared.Move.{Move}
use Rattle.moves.specs.Window.{part, splice}
use Rattle.moves.specs.Slots.{State, state}
use Rattle.moves.specs.Pointers.{Pointer}
use Rattle.moves.specs.Settle.{settled, settle}
use Rattle.moves.specs.Plan.{Plan, says, leaves, leaves_registers}

module _ (table : ℕ → Option ℕ) where
  -- the window's bytes and the registers after it
  abbrev pub settle_if : Bool → List Pointer → State → State
  settle_if true ps w = settle table ps w
  settle_if false ps w = w

  -- an answer, and what is left, are what the definitions say
  pub record Settles (write : Bool) (r : Move) (after : State) (ps : List Pointer) (w : State) : Type 0 where
    pub answer : r ≡ settled table ps w
    pub left : after ≡ settle_if write ps w

  -- an answer, and the image and the registers that are left, are those of the pointers in the window of n bytes from `off`
  pub record SettlesIn (write : Bool) (r : Move) (im after rs rs' : List ℕ) (off n : ℕ) (ps : List Pointer) : Type 0 where
    pub answer : r ≡ settled table ps (state (part im off n) rs)
    pub left : after ≡ splice im off n (settle_if write ps (state (part im off n) rs)).window
    pub registers_left : rs' ≡ (settle_if write ps (state (part im off n) rs)).registers

-- the image and the registers after it
abbrev pub leaves_if : Bool → (ℕ → Option ℕ) → List ℕ → List ℕ → Plan → List ℕ
leaves_if true table im rs p = leaves table im rs p
leaves_if false table im rs p = im

abbrev pub leaves_registers_if : Bool → (ℕ → Option ℕ) → List ℕ → List ℕ → Plan → List ℕ
leaves_registers_if true table im rs p = leaves_registers table im rs p
leaves_registers_if false table im rs p = rs

-- an answer, and the image and the registers that are left, are what a plan on an image gives, with these registers
pub record Follows (write : Bool) (r : Move) (after rs' : List ℕ) (table : ℕ → Option ℕ) (im rs : List ℕ) (p : Plan) : Type 0 where
  pub answer : r ≡ says table im rs p
  pub left : after ≡ leaves_if write table im rs p
  pub registers_left : rs' ≡ leaves_registers_if write table im rs p
