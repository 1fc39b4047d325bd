-- Why a slot of a frame moves or does not, document 02, request 8. A refusal first, then moved before null base before listed only as base.
use Rattle.std.specs.Prelude.{ℕ, suc, ◌+◌, Bool, false, cond, not, ◌&&◌, eqb}
use Rattle.std.proofs.Math.Option.{Option, none, some}
use mathlib.Core.List.{List, [], ◌∷◌, map}
use Rattle.stackmap.specs.Section.{Entry, is_old, read_section}
use Rattle.moves.specs.Slots.{Slot, memory, register, same}
use Rattle.moves.specs.Pointers.{Pointer, null, slots, or_zero}
use Rattle.moves.specs.Table.{look_up}
use Rattle.relocate.specs.Restore.{Restore}
use Rattle.relocate.specs.Stopped.{Stopped, cursor}
use Rattle.relocate.specs.Statepoint.{pairs, pointers_of}
use Rattle.relocate.specs.Plan.{records_of}
use Rattle.relocate.specs.Relocation.{answer, content_at}
use Rattle.explain.specs.declared.Reason.{Reason}
use Rattle.explain.specs.declared.Reason.TheVariants.{Unlisted, OnlyBase, NullBase, Moved, Refused}
use Rattle.explain.specs.declared.Asked.{Asked}
use Rattle.explain.specs.declared.Asked.TheVariants.{Address, Register}

-- the slot that is asked for, in memory by its address
abbrev pub slot_of : Asked → Slot
slot_of (Address a) = memory a
slot_of (Register r) = register r

-- a slot that is counted from the stack pointer, by its address
abbrev pub addressed : ℕ → Slot → Slot
addressed sp (memory a) = memory (sp + a)
addressed sp (register r) = register r

abbrev pub pointer_at : ℕ → Pointer → Pointer
pointer_at sp null = null
pointer_at sp (slots b d) = slots (addressed sp b) (addressed sp d)

-- the pointers of the frame's one record, pair by pair, by the addresses of their slots
abbrev pub pointers_in : Restore → Stopped → List Entry → List (List Pointer)
pointers_in R f [] = []
pointers_in R f (e ∷ es) =
    map (map (pointer_at (cursor f).sp)) (map (pointers_of (is_old R.section) (read_section R.section).constants (cursor f)) (pairs e.body))

unfoldable pub listed : Restore → Stopped → List (List Pointer)
listed R f = pointers_in R f (records_of R.section f.frame)

-- the first pointer of which a test holds, and its pair's number; the first of these pairs has number i
pub record Hit : Type 0 where
  pub pair : ℕ
  pub pointer : Pointer

unfoldable pub among : (Pointer → Bool) → ℕ → List Pointer → Option Hit → Option Hit
among test i [] k = k
among test i (p ∷ ps) k = cond (test p) (some (record { pair = i; pointer = p })) (among test i ps k)

unfoldable pub lowest_pair : (Pointer → Bool) → ℕ → List (List Pointer) → Option Hit
lowest_pair test i [] = none
lowest_pair test i (ps ∷ pss) = among test i ps (lowest_pair test (suc i) pss)

-- the pointer is derived in this slot; it has its base there
abbrev pub derives : Slot → Pointer → Bool
derives x null = false
derives x (slots b d) = same d x

abbrev pub has_base : Slot → Pointer → Bool
has_base x null = false
has_base x (slots b d) = same b x

module _ (R : Restore) (im : List ℕ) (f : Stopped) where
  -- what the base slot of a pointer holds before the move
  abbrev pub old_base : Pointer → ℕ
  old_base null = 0
  old_base (slots b d) = content_at R im f.registers b

  -- derived, from an old base that is not 0
  abbrev pub moved_by : Slot → Pointer → Bool
  moved_by x p = derives x p && not (eqb (old_base p) 0)

  -- the three reasons of a slot that doesn't move, the first that holds
  abbrev pub or_else : Option Hit → Reason → Reason → Reason
  or_else none there other = other
  or_else (some h) there other = there

  unfoldable pub still : Slot → Reason
  still x = or_else (lowest_pair (derives x) 0 (listed R f)) NullBase (or_else (lowest_pair (has_base x) 0 (listed R f)) OnlyBase Unlisted)

  -- moved, with the lowest pair that derives it, the old base and the new base
  abbrev pub by_hit : Option Hit → Reason → Reason
  by_hit none other = other
  by_hit (some h) other = Moved h.pair (old_base h.pointer) (or_zero (look_up R.olds R.news (old_base h.pointer)))

  unfoldable pub accepted : Slot → Reason
  accepted x = by_hit (lowest_pair (moved_by x) 0 (listed R f)) (still x)

  -- a refusal first, with the number and place that the move gives
  unfoldable pub explained : Slot → Reason
  explained x = let a = answer R im f in cond (eqb a.number 0) (accepted x) (Refused a.number a.place)
