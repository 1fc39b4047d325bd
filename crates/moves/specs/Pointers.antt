-- The pointers of a frame, in the bytes of its window and in its registers: collisions (20), unknown bases (21) and new contents.
use Rattle.std.specs.Prelude.{ℕ, suc, ◌+◌, ◌-◌, ◌%◌, ◌^◌, Bool, true, false, not, ◌&&◌, ◌||◌, List, eqb, get_or}
use Rattle.std.proofs.Math.Option.{Option, none, some}
use Rattle.moves.specs.Search.{any_below}
use Rattle.moves.specs.Slots.{Slot, State, same, overlap, read}

-- Each pair is one pointer: null, without slots, or a base slot and a derived slot.
pub data Pointer : Type 0 where
  null : Pointer
  slots : Slot → Slot → Pointer

-- of two pairs, by their base and derived slots: two listed slots overlap without being equal
unfoldable pub any_overlap : Slot → Slot → Slot → Slot → Bool
any_overlap b d b' d' = overlap b b' || (overlap b d' || (overlap d b' || overlap d d'))

-- Two pairs that are not null clash, by their slots and their old bases v: two listed slots overlap without being equal, or
-- their derived slots are equal and their old bases differ.
unfoldable pub slots_clash : Slot → Slot → ℕ → Slot → Slot → ℕ → Bool
slots_clash b d v b' d' v' = any_overlap b d b' d' || (same d d' && not (eqb v v'))

-- null pairs have no slots
unfoldable pub clash : State → Pointer → Pointer → Bool
clash w null q = false
clash w (slots b d) null = false
clash w (slots b d) (slots b' d') = slots_clash b d (read w b) b' d' (read w b')

-- pair p collides if it clashes with some pair q up to p, p itself included
abbrev pub collides : State → List Pointer → ℕ → Bool
collides w ps p = any_below (λ q. clash w (get_or ps p null) (get_or ps q null)) (suc p)

abbrev pub is_none : Option ℕ → Bool
is_none none = true
is_none (some n) = false

abbrev pub or_zero : Option ℕ → ℕ
or_zero none = 0
or_zero (some n) = n

module _ (table : ℕ → Option ℕ) where
  -- its base is neither 0 nor an old start
  abbrev pub unknown : State → Pointer → Bool
  unknown w null = false
  unknown w (slots b d) = is_none (table (read w b))

  -- old derived + new base - old base, modulo 2^64
  unfoldable pub new_derived : ℕ → ℕ → ℕ
  new_derived derived base = (derived + or_zero (table base) + (2 ^ 64 - base)) % 2 ^ 64

  -- the new content of the derived slot d with the base slot b
  unfoldable pub new_content : State → Slot → Slot → ℕ
  new_content w b d = new_derived (read w d) (read w b)
