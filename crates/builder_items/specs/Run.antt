-- For the code alone: nothing here has to be believed.
-- The fields of items of one kind.
use Rattle.std.specs.Prelude.{ℕ, List}
use Rattle.stackmap.specs.Fields.{Field, all, many}

-- those of n items, each read from where it stands in the listing
abbrev pub fields_of : (List ℕ → ℕ → List Field) → ℕ → ℕ → List ℕ → ℕ → List Field
fields_of fields step n l at = all (λ x. x) (many fields step n l at)
