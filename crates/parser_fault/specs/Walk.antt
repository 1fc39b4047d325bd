-- For the code alone: nothing here has to be believed.
-- Where a walk over the records of a listing stands among its functions, and what it relies on. `old` is true for version 1.
use Rattle.std.specs.Prelude.{ℕ, ◌+◌, ◌*◌, ◌-◌, ◌≤◌, ◌<◌, ◌≡◌, Bool, true, false, List, [], ◌++◌, length, replicate}
use Rattle.stackmap.specs.Layout.{section_most}
use Rattle.stackmap.specs.Fields.{size, all, many}
use Rattle.stackmap.specs.Section.{record_fields, Owner, nobody, owners, record_owners, counted, Entry}
use Rattle.listing.specs.Layout.{function_item_size}
use Rattle.listing.specs.Listing.{listed_function, listed_record}
use Rattle.parser_items.specs.Survey.{functions_of, records_from}

module _ (l : List ℕ) where
  -- function number i; a record of version 1 is nobody's
  unfoldable pub listed_owner : Bool → ℕ → Owner
  listed_owner true i = record { number = i; function = nobody.function }
  listed_owner false i = record { number = i; function = listed_function l (function_item_size * i) }

  -- the owners of the records of all functions from `next` on, of n functions; in version 1 there are no such
  unfoldable pub later_owners : Bool → ℕ → ℕ → List Owner
  later_owners true n next = []
  later_owners false n next = owners next (many listed_function function_item_size (n - next) l (function_item_size * next))

  -- the owners of the records still ahead, of n functions: `left` records of the function before `next`, and those of all
  -- functions from `next` on
  unfoldable pub ahead : Bool → ℕ → ℕ → ℕ → List Owner
  ahead old n next left = replicate left (listed_owner old (next - 1)) ++ later_owners old n next

  -- the record item at `at`, of function number i, as it is to stand at `place` of the section
  abbrev pub listed_entry : Bool → ℕ → ℕ → ℕ → Entry
  listed_entry old i at place = record { number = 0; first = place; owner = listed_owner old i; body = listed_record l at }

  -- what the walk relies on: n functions whose record counts add up to the records from `from` on; the section's records
  -- begin at `place`, and it ends at `end`
  pub record Walkable (old : Bool) (n from records place end : ℕ) : Type 0 where
    pub functions_inside : function_item_size * n ≤ length l
    pub inside : from ≤ length l
    pub adds_up : old ≡ false → counted (functions_of l n) ≡ records
    pub listed : length (records_from l from) ≡ records
    pub ends : place + size (all (record_fields old) (records_from l from)) ≡ end
    pub small : end ≤ section_most

-- `left` records of the function before `next` are ahead, so there is such a function where any is left
pub record Turning (old : Bool) (n next left : ℕ) : Type 0 where
  pub most : old ≡ false → next ≤ n
  pub begun : 0 < left → 0 < next

-- the turn before the first record has the owners of all records ahead, of any listing with n functions
pub record Starting (old : Bool) (n records next left : ℕ) : Type 0 where
  pub turning : Turning old n next left
  pub all_ahead : (l : List ℕ) → ahead l old n next left ≡ record_owners old records (functions_of l n)
