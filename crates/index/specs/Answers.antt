-- For the code alone: nothing here has to be believed.
-- What the code of a call answers, and leaves in the lent list, is what its definition says.
use Rattle.std.specs.Prelude.{◌≡◌, List, ℕ}
use Rattle.index.specs.declared.Written.{Written}
use Rattle.index.specs.Index.{Listed}

pub record Answers (r : Written) (out : List ℕ) (l : Listed) : Type 0 where
  pub number : r.number ≡ l.number
  pub place : r.place ≡ l.place
  pub written : r.written ≡ l.written
  pub output : out ≡ l.output
