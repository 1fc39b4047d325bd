-- For the code alone: nothing here has to be believed.
-- The header of a section, by the numbers that it is written from; and what a conversion is by its result.
use Rattle.std.specs.Prelude.{ℕ, Bool, List, [], ◌∷◌, Result, Ok, Err}
use Rattle.refusals.specs.declared.Refusal.{Refusal}
use Rattle.refusals.specs.Refusal.{number_of_cause}
use Rattle.stackmap.specs.Layout.{version_number}
use Rattle.stackmap.specs.Fields.{Field, ◌of◌}
use Rattle.listing.specs.Listing.{Converted}

-- version, three zero bytes, and the numbers of functions, constants and records
abbrev pub header_fields : Bool → ℕ → ℕ → ℕ → List Field
header_fields old functions constants records =
    (1 of version_number old) ∷ (3 of 0) ∷ (4 of functions) ∷ (4 of constants) ∷ (4 of records) ∷ []

-- the length written or a refusal, and the output that is left
abbrev pub as_converted : Result ℕ Refusal → List ℕ → Converted
as_converted (Ok n) out = record { number = 0; place = 0; written = n; output = out }
as_converted (Err r) out = record { number = number_of_cause r.0; place = r.1; written = 0; output = out }
