-- For the code alone: nothing here has to be believed.
-- Where a walk over the records stands among the functions.
use Rattle.std.specs.Prelude.{ℕ, ◌+◌, ◌*◌, ◌-◌, ◌≤◌, ◌<◌, ◌≡◌, Bool, true, false, List, [], ◌++◌, length, drop, replicate, get_or}
use Rattle.stackmap.specs.declared.Turn.{Turn}
use Rattle.stackmap.specs.Layout.{header_size, function_size}
use Rattle.stackmap.specs.Fields.{many}
use Rattle.stackmap.specs.Section.{num_functions, num_records, is_old, constants_at, read_function, read_functions, read_record, Owner, nobody, owners, counted, Entry, Function, read_section, no_function}

-- the first byte of function number i
abbrev pub function_at : Bool → ℕ → ℕ
function_at old i = header_size + function_size old * i

unfoldable pub owner_by : Bool → List ℕ → ℕ → Owner
owner_by true s i = record { number = i; function = nobody.function }
owner_by false s i = record { number = i; function = read_function false s (function_at false i) }

abbrev pub owner_at : List ℕ → ℕ → Owner
owner_at s i = owner_by (is_old s) s i

-- the entry of the record at p, of function number i
abbrev pub entry_at : List ℕ → ℕ → ℕ → ℕ → Entry
entry_at s number i p = record { number = number; first = p; owner = owner_at s i; body = read_record (is_old s) (drop p s) }

-- the owners of the records of all functions from `next` on; in version 1 there are no such
unfoldable pub later_owners : Bool → List ℕ → ℕ → List Owner
later_owners true s next = []
later_owners false s next = owners next (many (read_function false) (function_size false) (num_functions s - next) s (function_at false next))

-- the owners of the records still ahead: `left` records of the function before `next`, and those of all functions from `next` on
unfoldable pub ahead : List ℕ → ℕ → ℕ → List Owner
ahead s next left = replicate left (owner_at s (next - 1)) ++ later_owners (is_old s) s next

-- the turn before the first record: the first function is next; in version 1 all records are ahead, and nobody's
unfoldable pub first_turn : Bool → List ℕ → Turn
first_turn true s = record { next = 1; left = num_records s }
first_turn false s = record { next = 0; left = 0 }

-- `left` records of the function before `next` are ahead, so there is such a function where any is left
pub record Turning (s : List ℕ) (next left : ℕ) : Type 0 where
  pub most : is_old s ≡ false → next ≤ num_functions s
  pub begun : 0 < left → 0 < next

-- what the walk over a section relies on: the functions are inside, and their record counts add up
pub record Walkable (s : List ℕ) : Type 0 where
  pub inside : constants_at s ≤ length s
  pub adds_up : is_old s ≡ false → counted (read_functions s) ≡ num_records s

-- function number i
unfoldable pub function_number : List ℕ → ℕ → Function
function_number s i = get_or (read_section s).functions i no_function
