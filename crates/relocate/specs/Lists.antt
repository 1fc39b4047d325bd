-- Lists of moves, and demand 3.
use Rattle.std.specs.Prelude.{ℕ, ◌+◌, ◌-◌, ◌≡◌, length, get_or}
use mathlib.Core.List.{List, [], ◌∷◌, map, Memᴰ, Permᴰ}
use Rattle.wire.specs.Word.{bytes}
use Rattle.moves.specs.declared.Move.{Move}
use Rattle.moves.specs.Limits.{pointer_size}
use Rattle.moves.specs.Slots.{Slot, memory, register}
use Rattle.moves.specs.Window.{In}
use Rattle.relocate.specs.Restore.{Restore}
use Rattle.relocate.specs.Stopped.{Stopped}
use Rattle.relocate.specs.Relocation.{answer, moved, moved_registers, InExtent, ListedPointer, new_content_at}

-- The moves run one after another, each on the image as the last one left it. Each frame has a register list of its own.
module _ (R : Restore) where
  abbrev pub answers : List Stopped → List ℕ → List Move
  answers [] im = []
  answers (f ∷ fs) im = answer R im f ∷ answers fs (moved R im f)

  abbrev pub final : List Stopped → List ℕ → List ℕ
  final [] im = im
  final (f ∷ fs) im = final fs (moved R im f)

  -- the registers of each frame after the list
  abbrev pub final_registers : List Stopped → List ℕ → List (List ℕ)
  final_registers [] im = []
  final_registers (f ∷ fs) im = moved_registers R im f ∷ final_registers fs (moved R im f)

-- no two frames have extents that share a byte
abbrev pub Disjoint : List ℕ → List Stopped → Type 0
Disjoint s [] = Unit {0}
Disjoint s (f ∷ fs) = ((g : Stopped) → Memᴰ g fs → (a : ℕ) → InExtent s f a → InExtent s g a → ⊥) × Disjoint s fs

module _ (R : Restore) (im : List ℕ) where
  -- byte i of the image is in the derived slot at the address d, with the base slot b, of an accepted frame of the list
  pub record Written (fs : List Stopped) (frame : Stopped) (b : Slot) (d i : ℕ) : Type 0 where
    pub in_list : Memᴰ frame fs
    pub accepted : (answer R im frame).number ≡ 0
    pub lists : ListedPointer R.section frame b (memory d)
    pub inside : In d pointer_size (R.first + i)

  -- the register r is a derived slot, with the base slot b, of the frame, which is accepted
  pub record WrittenRegister (frame : Stopped) (b : Slot) (r : ℕ) : Type 0 where
    pub accepted : (answer R im frame).number ≡ 0
    pub lists : ListedPointer R.section frame b (register r)

  -- The registers that a frame's plain move leaves: one that is a derived slot of an accepted frame has its new content, worked out from the
  -- starting image and the frame's own starting registers; every other one is as it was lent.
  pub record RegistersHold (f : Stopped) : Type 0 where
    pub same_length : length (moved_registers R im f) ≡ length f.registers
    pub slot : (b : Slot) (r : ℕ) → WrittenRegister f b r → get_or (moved_registers R im f) r 0 ≡ new_content_at R im f.registers b (register r)
    pub rest : (r : ℕ) → ((b : Slot) → WrittenRegister f b r → ⊥) → get_or (moved_registers R im f) r 0 ≡ get_or f.registers r 0

  -- Each move's answer, and each frame's registers after the list, equal those of its frame's plain move. In the final image, a byte in a
  -- derived slot of an accepted frame is that byte of the slot's new content, worked out from the starting image and registers. Every
  -- other byte is the starting image's.
  pub record Holds (fs : List Stopped) : Type 0 where
    pub plain : answers R fs im ≡ map (answer R im) fs
    pub plain_registers : final_registers R fs im ≡ map (moved_registers R im) fs
    pub registers : (f : Stopped) → Memᴰ f fs → RegistersHold f
    pub same_length : length (final R fs im) ≡ length im
    pub slot : (f : Stopped) (b : Slot) (d i : ℕ) → Written fs f b d i
        → get_or (final R fs im) i 0 ≡ get_or (bytes pointer_size (new_content_at R im f.registers b (memory d))) (R.first + i - d) 0
    pub rest : (i : ℕ) → ((f : Stopped) (b : Slot) (d : ℕ) → Written fs f b d i → ⊥) → get_or (final R fs im) i 0 ≡ get_or im i 0

-- Demand 3, of lists of moves: on one section, one table and one image, every list of frames of which no two have extents that share
-- a byte gives the plain answers, and the final image and registers that these fix. (On a refused section every move is refused.)
abbrev pub Demand3 : Type 0
Demand3 = (R : Restore) (im : List ℕ) (fs : List Stopped) → Disjoint R.section fs → Holds R im fs

-- the moves of fs in another order, gs: no two extents share a byte, each answer and each frame's registers are the plain ones, and the
-- image is the same
pub record OtherOrderHolds (R : Restore) (im : List ℕ) (fs gs : List Stopped) : Type 0 where
  pub disjoint : Disjoint R.section gs
  pub holds : Holds R im gs
  pub same_image : final R fs im ≡ final R gs im

-- And so the order of the moves doesn't count, whatever it is.
abbrev pub OrderFree : Type 0
OrderFree = (R : Restore) (im : List ℕ) (fs gs : List Stopped) → Permᴰ fs gs → Disjoint R.section fs → OtherOrderHolds R im fs gs
