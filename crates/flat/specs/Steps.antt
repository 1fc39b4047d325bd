-- For the code alone: nothing here has to be believed.
-- A test of every item, on the way.
use Rattle.std.specs.Prelude.{ℕ, ◌-◌, ◌≤◌, ◌≡◌, Bool}
use Rattle.flat.specs.Places.{every}

-- what is left gives what the whole gives
pub record Testing (p : ℕ → Bool) (n i : ℕ) : Type 0 where
  pub most : i ≤ n
  pub same : every p 0 n ≡ every p i (n - i)
