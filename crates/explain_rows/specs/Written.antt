-- For the code alone: nothing here has to be believed.
-- What the code writes of each pointer, by its arrays.
use Rattle.std.specs.Prelude.{ℕ, zero, suc, cond, List, [], ◌∷◌, ◌++◌, eqb, get_or}
use Rattle.std.proofs.Math.Option.{Option}
use Rattle.moves.specs.Slots.{State, read}
use Rattle.moves.specs.Pointers.{Pointer}
use Rattle.moves.specs.Plan.{pair_of}
use Rattle.moves.specs.Arrays.{slot_of}
use Rattle.explain.specs.Rows.{reason_numbers, no_slot}
use Rattle.explain_pointers.specs.Told.{told_of}
use Rattle.explain_numbers.specs.Numbers.{sort_at, place_at}

-- rows one after the other: n of them, from row j on
abbrev pub in_order : (ℕ → List ℕ) → ℕ → ℕ → List ℕ
in_order row zero j = []
in_order row (suc n) j = row j ++ in_order row n (suc j)

module _ (w : State) (live bases derived : List ℕ) (table : ℕ → Option ℕ) (n : ℕ) (pss : List (List Pointer)) (sp : ℕ) where
  abbrev pub slot_by : ℕ → List ℕ
  slot_by x = sort_at x ∷ place_at sp x ∷ read w (slot_of x) ∷ reason_numbers (told_of w live bases derived table n pss x)

  -- the slots of pointer j of a frame's n, whose pairs are these
  unfoldable pub slots_by : ℕ → List ℕ
  slots_by j = cond (eqb (get_or live j 0) 0) (no_slot ++ no_slot) (slot_by (get_or bases j 0) ++ slot_by (get_or derived j 0))

  -- its row, where the frame has the position k
  unfoldable pub row_by : ℕ → ℕ → List ℕ
  row_by k j = k ∷ pair_of pss j ∷ slots_by j
