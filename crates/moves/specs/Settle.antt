-- What a move answers and leaves, by the bytes of the frame's window and its registers.
use Rattle.std.specs.Prelude.{ℕ, cond, List, [], ◌∷◌, eqb, ltb, length, get_or}
use Rattle.std.proofs.Math.Option.{Option}
use Rattle.moves.specs.declared.Move.{Move}
use Rattle.moves.specs.Search.{lowest}
use Rattle.moves.specs.Slots.{State, put}
use Rattle.moves.specs.Pointers.{Pointer, null, slots, collides, unknown, new_content}

-- a refusal's number and place
abbrev pub refused_move : ℕ → ℕ → Move
refused_move n p = record { number = n; place = p; count = 0 }

-- accepted, with the number of pointers, null ones included
abbrev pub accepted_move : ℕ → Move
accepted_move n = record { number = 0; place = 0; count = n }

-- a refusal at the lowest pointer with a fault, of n; p is n where none has it, and then go on
unfoldable pub at_lowest : ℕ → ℕ → ℕ → Move → Move
at_lowest number p n k = cond (ltb p n) (refused_move number p) k

-- the lowest pointer that collides
unfoldable pub first20 : List Pointer → State → ℕ
first20 ps w = lowest (collides w ps) (length ps)

module _ (table : ℕ → Option ℕ) where
  -- the lowest pointer whose base is neither 0 nor an old start
  unfoldable pub first21 : List Pointer → State → ℕ
  first21 ps w = lowest (λ p. unknown table w (get_or ps p null)) (length ps)

  -- the writes, one after the other; all that is read is read from `old`
  abbrev pub write1 : State → State → Pointer → State
  write1 old cur null = cur
  write1 old cur (slots b d) = put cur d (new_content table old b d)

  abbrev pub write : State → State → List Pointer → State
  write old cur [] = cur
  write old cur (p ∷ ps) = write old (write1 old cur p) ps

  -- the answer: 20 over all pointers, then 21, then accepted
  unfoldable pub settled : List Pointer → State → Move
  settled ps w =
      at_lowest 20 (first20 ps w) (length ps)
      (at_lowest 21 (first21 ps w) (length ps)
      (accepted_move (length ps)))

  -- the window's bytes and the registers after the move: the new ones, or the old ones where it is refused
  unfoldable pub settle : List Pointer → State → State
  settle ps w = cond (eqb (settled ps w).number 0) (write w w ps) w
