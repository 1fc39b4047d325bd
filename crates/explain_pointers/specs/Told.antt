-- For the code alone: nothing here has to be believed.
-- What the search of the code's arrays for a slot tells.
use Rattle.std.specs.Prelude.{ℕ, ◌+◌, ◌*◌, ◌-◌, Bool, false, cond, not, List, eqb, ltb, leb, get_or}
use Rattle.std.proofs.Math.Option.{Option, none, some}
use Rattle.moves.specs.Limits.{pointer_size}
use Rattle.moves.specs.Search.{lowest}
use Rattle.moves.specs.Slots.{Slot, memory, register, State, read}
use Rattle.moves.specs.Pointers.{Pointer, or_zero}
use Rattle.moves.specs.Plan.{pair_of}
use Rattle.moves.specs.Arrays.{registers_from, slot_of}
use Rattle.relocate.specs.Limits.{register_count}
use Rattle.explain.specs.declared.Reason.{Reason}
use Rattle.explain.specs.declared.Reason.TheVariants.{Unlisted, OnlyBase, NullBase, Moved}

-- a slot, in memory by its address, as a number of the arrays; none where no frame with this stack pointer can list it
unfoldable pub number_of : ℕ → Slot → Option ℕ
number_of sp (memory a) = cond (leb sp a) (cond (ltb (a - sp) registers_from) (some (a - sp)) none) none
number_of sp (register r) = cond (ltb r register_count) (some (registers_from + pointer_size * r)) none

-- pointer k is not null, and this number of it is x
unfoldable pub named_at : List ℕ → List ℕ → ℕ → ℕ → Bool
named_at live numbers x k = cond (eqb (get_or live k 0) 0) false (eqb (get_or numbers k 0) x)

module _ (w : State) (live bases derived : List ℕ) where
  -- what the base slot of pointer k holds
  abbrev pub base_at : ℕ → ℕ
  base_at k = read w (slot_of (get_or bases k 0))

  -- it is derived in x, from an old base that is not 0
  unfoldable pub moves_at : ℕ → ℕ → Bool
  moves_at x k = cond (eqb (get_or live k 0) 0) false (cond (eqb (get_or derived k 0) x) (not (eqb (base_at k) 0)) false)

  module _ (table : ℕ → Option ℕ) (n : ℕ) (pss : List (List Pointer)) where
    -- moved, by pointer k of the frame's n, whose pairs are these
    abbrev pub by_pointer : ℕ → Reason
    by_pointer k = Moved (pair_of pss k) (base_at k) (or_zero (table (base_at k)))

    unfoldable pub told_of : ℕ → Reason
    told_of x =
        cond (ltb (lowest (moves_at x) n) n) (by_pointer (lowest (moves_at x) n))
        (cond (ltb (lowest (named_at live derived x) n) n) NullBase
        (cond (ltb (lowest (named_at live bases x) n) n) OnlyBase Unlisted))

    abbrev pub told : Option ℕ → Reason
    told none = Unlisted
    told (some x) = told_of x
