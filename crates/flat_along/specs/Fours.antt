-- For the code alone: nothing here has to be believed.
-- Four bytes looked at together.
use Rattle.std.specs.Prelude.{ℕ, ◌+◌, ◌<◌, List, get_or}

-- the bytes at p and at one, two and three steps after it are below the limit
pub record FourBelow (s : List ℕ) (limit p step : ℕ) : Type 0 where
  pub first : get_or s p 0 < limit
  pub second : get_or s (p + step) 0 < limit
  pub third : get_or s (p + step + step) 0 < limit
  pub fourth : get_or s (p + step + step + step) 0 < limit
