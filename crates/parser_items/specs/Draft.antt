-- For the code alone: nothing here has to be believed.
-- What was counted in the items of a listing that is as it should be.
use Rattle.std.specs.Prelude.{ℕ, ◌≤◌, ◌≡◌, Bool, List, length}
use Rattle.stackmap.specs.Verdict as verdict
use Rattle.listing.specs.Listing.{not_too_many, items_check}
use Rattle.parser_items.specs.Survey.{records_from, records_after, Planned}

-- n records stand from `from` on, none with too many locations or live-outs
pub record Ready (l : List ℕ) (from n : ℕ) : Type 0 where
  pub inside : from ≤ length l
  pub counted : length (records_from l from) ≡ n
  pub small : (e : ℕ) × (not_too_many (records_from l from) from ≡ verdict.Valid e)

-- the items after the version's are as they should be, and what was counted in them
pub record Whole (l : List ℕ) (old : Bool) (functions constants records bytes : ℕ) : Type 0 where
  pub accepted : items_check old l ≡ verdict.Valid (length l)
  pub planned : Planned l old functions constants records bytes
  pub ready : Ready l (records_after l functions constants) records
