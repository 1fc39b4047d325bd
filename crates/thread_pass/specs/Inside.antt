-- For the code alone: nothing here has to be believed.
use Rattle.std.specs.Prelude.{ℕ, ◌<◌}

-- a number lies strictly between two others
pub record Inside (below above a : ℕ) : Type 0 where
  pub low : below < a
  pub high : a < above
