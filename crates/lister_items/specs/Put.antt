-- For the code alone: nothing here has to be believed.
-- What a function that writes into the output leaves there.
use Rattle.std.specs.Prelude.{ℕ, ◌+◌, ◌≡◌, List}
use Rattle.std.proofs.lemmas.List.Edits.{sets}
use Rattle.stackmap.specs.Fields.{Field, all, bytes_of, many, size}

-- the bytes of these fields stand in the output from `to` up to `end`, and the rest is unchanged
pub record Put (out out' : List ℕ) (to end : ℕ) (fields : List Field) : Type 0 where
  pub ends : end ≡ to + size fields
  pub output : out' ≡ sets out to (bytes_of fields)

-- the fields of n items of one kind, each read from where it stands
abbrev pub fields_of : (List ℕ → ℕ → List Field) → ℕ → ℕ → List ℕ → ℕ → List Field
fields_of fields step n s at = all (λ x. x) (many fields step n s at)
