-- For the code alone: nothing here has to be believed.
-- What is read of a section's layout. `old` is true for version 1.
use Rattle.std.specs.Prelude.{ℕ, ◌≡◌, Bool, List}
use Rattle.stackmap.specs.Section.{is_old, num_functions, num_constants, num_records, constants_at, records_at}

pub record SectionLayout (s : List ℕ) (old : Bool) (functions constants records pool first : ℕ) : Type 0 where
  pub old_is : old ≡ is_old s
  pub functions_are : functions ≡ num_functions s
  pub constants_are : constants ≡ num_constants s
  pub records_are : records ≡ num_records s
  pub pool_is : pool ≡ constants_at s
  pub first_is : first ≡ records_at s
