-- For the code alone: nothing here has to be believed.
-- What counting the items of a listing gives.
use Rattle.std.specs.Prelude.{ℕ, ◌+◌, ◌*◌, ◌≤◌, ◌≡◌, List, length}
use Rattle.listing.specs.Layout.{function_item_size, constant_item_size, record_item_size, location_item_size, live_out_item_size}
use Rattle.listing.specs.Listing.{run, functions_listed, constants_listed, listed_locations, listed_live_outs}

-- r items of the kind k, n bytes each, stand one after the other
pub record Ran (l : List ℕ) (k n from r : ℕ) : Type 0 where
  pub is : r ≡ run k n (length l) l from
  pub inside : from + n * r ≤ length l

-- the functions and the constants
pub record TablesCounted (l : List ℕ) (functions constants : ℕ) : Type 0 where
  pub functions_are : functions ≡ functions_listed l
  pub constants_are : constants ≡ constants_listed l
  pub inside : function_item_size * functions + constant_item_size * constants ≤ length l

-- the locations and the live-outs after the record item at `at`, and where they stop
pub record RecordCounted (l : List ℕ) (at locations live_outs stop : ℕ) : Type 0 where
  pub locations_are : locations ≡ listed_locations l at
  pub live_outs_are : live_outs ≡ listed_live_outs l at
  pub stops : stop ≡ at + record_item_size + location_item_size * locations + live_out_item_size * live_outs
  pub inside : stop ≤ length l
