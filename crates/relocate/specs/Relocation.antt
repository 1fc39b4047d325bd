-- One move: a call that relocates one frame.
use Rattle.std.specs.Prelude.{ℕ, ◌+◌, ◌-◌, ◌≤◌, ◌<◌, ◌≡◌, true, false, cond, eqb, length}
use Rattle.std.proofs.Math.Option.{some}
use mathlib.Core.List.{List, [], ◌∷◌, Memᴰ}
use Rattle.stackmap.specs.Layout.{stack_size_unknown}
use Rattle.stackmap.specs.Section.{Entry, is_old, read_section}
use Rattle.moves.specs.declared.Move.{Move}
use Rattle.moves.specs.Table.{look_up}
use Rattle.moves.specs.Slots.{Slot, memory, register, state, read}
use Rattle.moves.specs.Pointers.{new_content}
use Rattle.moves.specs.Plan.{says, leaves, leaves_registers}
use Rattle.relocate.specs.declared.Frame.{Frame}
use Rattle.relocate.specs.Restore.{Restore}
use Rattle.relocate.specs.Stopped.{Stopped, registers_right, cursor}
use Rattle.relocate.specs.Statepoint.{is_statepoint, Pair, pairs, is_null, is_slot, pointers_in, slot_number}
use Rattle.relocate.specs.Plan.{plan, records_of, stack_size}

module _ (R : Restore) where
  -- the answer: a refusal's number and place, or 0 and the number of pointers, null ones included
  unfoldable pub answer : List ℕ → Stopped → Move
  answer im st = says (look_up R.olds R.news) im st.registers (plan R (length im) st)

  -- the image that it leaves
  unfoldable pub moved : List ℕ → Stopped → List ℕ
  moved im st = leaves (look_up R.olds R.news) im st.registers (plan R (length im) st)

  -- the frame's registers that it leaves
  unfoldable pub moved_registers : List ℕ → Stopped → List ℕ
  moved_registers im st = leaves_registers (look_up R.olds R.news) im st.registers (plan R (length im) st)

-- the frame names exactly one record
abbrev pub OneRecord : List ℕ → Frame → Entry → Type 0
OneRecord s f e = records_of s f ≡ e ∷ []

-- Its extent is the bytes from the stack pointer up to, not including, the stack pointer plus its function's stack size, without wrapping.
pub record Extent : Type 0 where
  pub start : ℕ
  pub end : ℕ

-- a frame without exactly one record, with stack size unknown, or whose registers are not 32, has no extent: no byte is in it
abbrev pub extent_by : ℕ → List Entry → Extent
extent_by sp [] = record { start = sp; end = sp }
extent_by sp (e ∷ []) = record { start = sp; end = cond (eqb (stack_size e) stack_size_unknown) sp (sp + stack_size e) }
extent_by sp (e ∷ e' ∷ es) = record { start = sp; end = sp }

unfoldable pub extent_of : List ℕ → Stopped → Extent
extent_of s st = let sp = (cursor st).sp in cond (registers_right st.registers) (extent_by sp (records_of s st.frame)) (extent_by sp [])

-- the byte at the address a is in it
pub record InExtent (s : List ℕ) (f : Stopped) (a : ℕ) : Type 0 where
  pub low : (extent_of s f).start ≤ a
  pub high : a < (extent_of s f).end

-- The frame's one record is a statepoint, and lists a pair that is not null and whose locations are slots; of one of its pointers b is the base
-- slot and d the derived slot, in memory by their addresses.
pub record ListedPointer (s : List ℕ) (f : Stopped) (b d : Slot) : Type 0 where
  pub entry : Entry
  pub one : OneRecord s f.frame entry
  pub statepoint : is_statepoint entry.body ≡ true
  pub pair : Pair
  pub listed : Memᴰ pair (pairs entry.body)
  pub not_null : is_null (read_section s).constants pair ≡ false
  pub base_slot : is_slot f.frame.machine (is_old s) pair.base ≡ true
  pub derived_slot : is_slot f.frame.machine (is_old s) pair.derived ≡ true
  pub pointer : ℕ
  pub held : pointer < pointers_in (is_old s) pair.base.size
  pub base_at : slot_number (cursor f) pair.base pointer ≡ some b
  pub derived_at : slot_number (cursor f) pair.derived pointer ≡ some d

-- a slot by its place in the image, which starts at the address `first`; or it is a register
abbrev pub in_image : ℕ → Slot → Slot
in_image first (memory a) = memory (a - first)
in_image first (register r) = register r

-- the number in a slot, by an image and a frame's registers
abbrev pub content_at : Restore → List ℕ → List ℕ → Slot → ℕ
content_at R im rs x = read (state im rs) (in_image R.first x)

-- the new content of the derived slot d with the base slot b, by the image's bytes and the frame's registers
abbrev pub new_content_at : Restore → List ℕ → List ℕ → Slot → Slot → ℕ
new_content_at R im rs b d = new_content (look_up R.olds R.news) (state im rs) (in_image R.first b) (in_image R.first d)
