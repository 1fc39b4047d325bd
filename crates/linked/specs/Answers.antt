-- For the code alone: nothing here has to be believed.
-- What the code of a call answers, and leaves in the lent list, is what its definition says.
use Rattle.std.specs.Prelude.{ℕ, ◌≡◌, List}
use Rattle.linked.specs.declared.Maps.{Maps}
use Rattle.linked.specs.Linked.{MapsListed}

pub record Answers (r : Maps) (out : List ℕ) (l : MapsListed) : Type 0 where
  pub number : r.number ≡ l.number
  pub place : r.place ≡ l.place
  pub count : r.count ≡ l.count
  pub output : out ≡ l.output
