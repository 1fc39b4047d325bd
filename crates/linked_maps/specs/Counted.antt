-- For the code alone: nothing here has to be believed.
-- How many maps there are, or the refusal's number and place.
use Rattle.std.specs.Prelude.{ℕ, Result, Ok, Err}
use Rattle.refusals.specs.declared.Refusal.{Refusal}
use Rattle.refusals.specs.Refusal.{number_of_cause}

pub data Counted : Type 0 where
  Count : ℕ → Counted
  Refused : ℕ → ℕ → Counted

-- what a function answers, as such
abbrev pub counted : Result ℕ Refusal → Counted
counted (Ok n) = Count n
counted (Err r) = Refused (number_of_cause r.0) r.1
