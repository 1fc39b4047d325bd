-- For the code alone: nothing here has to be believed.
-- What a conversion's code answers and leaves in the output is what its definition says.
use Rattle.std.specs.Prelude.{◌≡◌, List, ℕ}
use Rattle.listing.specs.declared.Conversion.{Conversion}
use Rattle.listing.specs.Listing.{Converted}

pub record Answers (r : Conversion) (out : List ℕ) (c : Converted) : Type 0 where
  pub number : r.number ≡ c.number
  pub place : r.place ≡ c.place
  pub written : r.written ≡ c.written
  pub output : out ≡ c.output
