-- For the code alone: nothing here has to be believed.
-- At how many places of a list of bytes a number of eight bytes stands.
use Rattle.std.specs.Prelude.{ℕ, ◌+◌, cond, ◌&&◌, List, [], ◌∷◌, eqb, leb, length}
use Rattle.wire.specs.Word.{word}

unfoldable pub hit_at : List ℕ → ℕ → ℕ → ℕ
hit_at s number at = cond (leb (at + 8) (length s) && eqb (word 8 s at) number) 1 0

unfoldable pub equal : List ℕ → ℕ → List ℕ → ℕ
equal s number [] = 0
equal s number (at ∷ ats) = hit_at s number at + equal s number ats
