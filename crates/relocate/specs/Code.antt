-- For the code alone: nothing here has to be believed.
-- What the code's steps rely on, and what their values mean.
use Rattle.std.specs.Prelude.{ℕ, zero, suc, ◌+◌, ◌*◌, ◌-◌, ◌≤◌, ◌<◌, ◌≡◌, Bool, true, cond, ◌&&◌, ◌||◌, List, [], ◌∷◌, map, eqb, leb, length, drop}
use Rattle.std.proofs.Math.Option.{Option, none, some}
use Rattle.stackmap.specs.Layout.{kind_const_index}
use Rattle.stackmap.specs.Section.{Location, Record, Entry, is_old, records_at, num_locations, record_length, read_record, read_section}
use Rattle.questions.specs.declared.LocationAnswer.{LocationAnswer}
use Rattle.moves.specs.declared.Move.{Move}
use Rattle.moves.specs.Limits.{pointer_size, pairs_most}
use Rattle.moves.specs.Pointers.{Pointer, null, or_zero}
use Rattle.moves.specs.Arrays.{registers_from, slot_of, Placed}
use Rattle.relocate.specs.declared.Cursor.{Cursor}
use Rattle.relocate.specs.declared.Machine.{Machine}
use Rattle.relocate.specs.declared.Machine.TheVariants.{Amd64}
use Rattle.relocate.specs.declared.Settings.{Settings}
use Rattle.moves.specs.Plan.{Plan, window}
use Rattle.relocate.specs.Limits.{register_count, kind_constant}
use Rattle.relocate.specs.Restore.{Restore}
use Rattle.relocate.specs.Stopped.{Stopped}
use Rattle.relocate.specs.Plan.{every, stack_size, plan_record}
use Rattle.relocate.specs.Relocation.{answer, moved, moved_registers}
use Rattle.relocate.specs.Statepoint.{location_at, pairs_at, Pair, pairs, is_null, pointers_in, is_slot, same_size, plus_offset, slot_address, wholly, is_register, slots_inside, inside, pointers_from, pointers_of}
use Rattle.stackmap.specs.Section.{as_offset}

-- The record at a place of the section, and the section's constants.

abbrev pub record_of : List ℕ → ℕ → Record
record_of s at = read_record (is_old s) (drop at s)

abbrev pub pool_of : List ℕ → List ℕ
pool_of s = (read_section s).constants

-- settings by their pointer count alone: what follows 25 reads nothing else of them
abbrev pub limited : ℕ → Settings
limited most = record { most = most; machine = Amd64; version1 = true; version3 = true }

-- the plan of a frame whose one entry is e
abbrev pub plan_entry : Restore → ℕ → Cursor → Entry → Plan
plan_entry R n f e = plan_record R n f (stack_size e) e.body

-- the plan of pairs that are right in form and not too many: 19, then the window
unfoldable pub plan_slots : Restore → Cursor → ℕ → List Pair → Plan
plan_slots R f size ps =
    let old = is_old R.section in
    let pool = pool_of R.section in
    every (inside old pool f size) 19 0 ps (window (f.sp - R.first) size (map (pointers_of old pool f) ps))

-- an answer, and the image and the registers that are left, are those of a move
pub record Relocates (R : Restore) (im : List ℕ) (f : Stopped) (r : Move) (after registers : List ℕ) : Type 0 where
  pub answer_is : r ≡ answer R im f
  pub image_is : after ≡ moved R im f
  pub registers_is : registers ≡ moved_registers R im f

-- a record stands there: the tables are inside, and all of it is
pub record RecordInside (s : List ℕ) (at : ℕ) : Type 0 where
  pub tables : records_at s ≤ length s
  pub inside : at + record_length (is_old s) (drop at s) ≤ length s

-- the pair whose base is location number j, and the pair number p
abbrev pub pair_from : Record → ℕ → Pair
pair_from r j = record { base = location_at r j; derived = location_at r (j + 1) }

abbrev pub pair_number : Record → ℕ → Pair
pair_number r p = pair_from r (pairs_at r + 2 * p)

-- its pairs begin at location number `start`, and are so many
pub record Paired (s : List ℕ) (at start count : ℕ) : Type 0 where
  pub stands : RecordInside s at
  pub starts : start ≡ pairs_at (record_of s at)
  pub counted : count ≡ length (pairs (record_of s at))
  pub room : start + 2 * count ≤ num_locations (drop at s)

-- A location, by what the reader answers of it.

abbrev pub location_of : LocationAnswer → Location
location_of a = record { kind = a.kind; size = a.size; register = a.register; offset = a.offset }

unfoldable pub zero_said : LocationAnswer → Bool
zero_said a = eqb a.constant 0 && (eqb a.kind kind_constant || eqb a.kind kind_const_index)

-- Slots as numbers (moves/specs/Arrays), those in memory in the n bytes from the stack pointer, counted from it; none for a slot in memory
-- that is not wholly inside.

-- the first slot of a location as a number
unfoldable pub number_of : Cursor → Location → ℕ
number_of f l = cond (is_register l) (registers_from + pointer_size * l.register) (or_zero (slot_address f l) - f.sp)

unfoldable pub slot_in : Bool → Cursor → ℕ → Location → Option ℕ
slot_in old f n l = cond (slots_inside old f n l) (some (number_of f l)) none

-- of memory by numbers: the register, the stack pointer, the offset's 32 bits, the slots
unfoldable pub position_in : ℕ → ℕ → ℕ → ℕ → ℕ → Option ℕ
position_in register sp offset k n =
    let a = plus_offset register (as_offset offset) in
    cond (wholly sp n k a) (some (or_zero a - sp)) none

unfoldable pub place_in : ℕ → ℕ → ℕ → Option ℕ
place_in p k n = cond (leb (p + pointer_size * k) n) (some p) none

-- what the two locations of a pair say, as the reader answers them
abbrev pub pair_said : LocationAnswer → LocationAnswer → Pair
pair_said b d = record { base = location_of b; derived = location_of d }

unfoldable pub null_said : LocationAnswer → LocationAnswer → Bool
null_said b d = zero_said b && zero_said d

unfoldable pub form_said : Machine → Bool → LocationAnswer → LocationAnswer → Bool
form_said m old b d =
    null_said b d || (is_slot m old (location_of b) && (is_slot m old (location_of d) && same_size old (pair_said b d)))

-- the pointers of a record's pairs, pair by pair
abbrev pub pointers_by : Bool → List ℕ → Cursor → Record → List (List Pointer)
pointers_by old pool f r = map (pointers_of old pool f) (pairs r)

-- how many pointers a pair is, and all pairs are
unfoldable pub count_of : Bool → List ℕ → Pair → ℕ
count_of old pool p = cond (is_null pool p) 1 (pointers_in old p.base.size)

abbrev pub total_of : (Pair → ℕ) → List Pair → ℕ
total_of g [] = 0
total_of g (p ∷ ps) = g p + total_of g ps

-- the arrays that a move takes have room for all pointers that it may have
pub record Room (live bases derived : List ℕ) : Type 0 where
  pub live_room : length live ≡ pairs_most
  pub bases_room : length bases ≡ pairs_most
  pub derived_room : length derived ≡ pairs_most

-- a pair as so many pointers from two slots on, by their numbers; none is the null pointer
abbrev pub run_of : ℕ → ℕ → ℕ → List Pointer
run_of zero b d = null ∷ []
run_of (suc k) b d = pointers_from (suc k) (slot_of b) (slot_of d)

-- k slots from the number x on: one, in a window of m bytes or a register; or several in the window, one after another
pub record RunPlaced (m k x : ℕ) : Type 0 where
  pub first : Placed m register_count x
  pub more : 1 < k → x + pointer_size * k ≤ m

-- so it is, and its slots are in the window of m bytes, or registers
pub record Looked (old : Bool) (pool : List ℕ) (f : Cursor) (m : ℕ) (p : Pair) (k b d : ℕ) : Type 0 where
  pub pointers_are : run_of k b d ≡ pointers_of old pool f p
  pub base_placed : 0 < k → RunPlaced m k b
  pub derived_placed : 0 < k → RunPlaced m k d
