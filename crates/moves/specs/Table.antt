-- The move table, in the words of document 01: two lent lists of 64-bit numbers, old starts and new starts.
use Rattle.std.specs.Prelude.{ℕ, Bool, true, cond, ◌&&◌, List, [], ◌∷◌, eqb, ltb, leb, length, get_or, drop}
use Rattle.std.proofs.Math.Option.{Option, none, some}
use Rattle.moves.specs.Limits.{table_most}

-- strictly rising, the first above `before`
unfoldable pub rising : ℕ → List ℕ → Bool
rising before [] = true
rising before (o ∷ os) = ltb before o && rising o os

unfoldable pub no_zero : List ℕ → Bool
no_zero [] = true
no_zero (o ∷ os) = ltb 0 o && no_zero os

-- 14: lists unequal, over 65,536 entries, old starts not strictly rising, or a 0 in either. What rises from above 0 holds no 0.
unfoldable pub table_right : List ℕ → List ℕ → Bool
table_right olds news =
    eqb (length olds) (length news) && (leb (length olds) table_most && (rising 0 olds && no_zero news))

-- where an object is now, by its old start
abbrev pub found : List ℕ → List ℕ → ℕ → Option ℕ
found [] news base = none
found (o ∷ os) news base = let r = found os (drop 1 news) base in cond (eqb o base) (some (get_or news 0 0)) r

-- Base content 0 moves to 0. Any other base must equal an old start; an address inside an object is not one.
unfoldable pub look_up : List ℕ → List ℕ → ℕ → Option ℕ
look_up olds news base = cond (eqb base 0) (some 0) (found olds news base)
