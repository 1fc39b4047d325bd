-- Statepoints and their pairs, in the words and order of document 01, "Statepoints and relocation".
use Rattle.std.specs.Prelude.{ℕ, zero, suc, ◌+◌, ◌-◌, ◌*◌, ◌/◌, ◌%◌, Bool, true, false, cond, not, ◌&&◌, ◌||◌, List, [], ◌∷◌, length, get_or, drop, eqb, ltb, leb}
use Rattle.std.proofs.Math.Option.{Option, none, some}
use Rattle.stackmap.specs.Layout.{kind_const_index, negative_from}
use Rattle.stackmap.specs.Section.{Location, Record, Offset, up, down, as_offset}
use Rattle.moves.specs.Limits.{pointer_size}
use Rattle.moves.specs.Slots.{Slot, memory, register}
use Rattle.moves.specs.Pointers.{Pointer, null, slots, or_zero}
use Rattle.relocate.specs.declared.Cursor.{Cursor}
use Rattle.relocate.specs.declared.Machine.{Machine}
use Rattle.relocate.specs.Limits.{frame_pointer, stack_pointer, general_registers, kind_register, kind_indirect, kind_constant, head_locations, deopt_at, location_most}
use Rattle.questions.specs.Questions.{constant_of}

-- what is read past the last location
abbrev pub no_location : Location
no_location = record { kind = 0; size = 0; register = 0; offset = 0 }

abbrev pub location_at : Record → ℕ → Location
location_at r i = get_or r.locations i no_location

-- the deopt count D: the third location
unfoldable pub deopt_count : Record → ℕ
deopt_count r = (location_at r deopt_at).offset

-- the number of the first location that is of a pair: 3 + D
abbrev pub pairs_at : Record → ℕ
pairs_at r = head_locations + deopt_count r

abbrev pub is_constant : Location → Bool
is_constant l = eqb l.kind kind_constant

unfoldable pub constant_head : Record → Bool
constant_head r = is_constant (location_at r 0) && (is_constant (location_at r 1) && is_constant (location_at r 2))

-- D is not negative, 3 + D is at most NumLocations, an even number remains, and there are no live-outs
unfoldable pub paired_rest : Record → Bool
paired_rest r =
    ltb (deopt_count r) negative_from
    && (leb (pairs_at r) (length r.locations)
    && (eqb ((length r.locations - pairs_at r) % 2) 0
    && eqb (length r.live_outs) 0))

-- A record is a statepoint if it has at least three locations, the first three have kind 4, and the rest is so.
unfoldable pub is_statepoint : Record → Bool
is_statepoint r = leb head_locations (length r.locations) && (constant_head r && paired_rest r)

-- the locations of a pair, base first
pub record Pair : Type 0 where
  pub base : Location
  pub derived : Location

unfoldable pub pair_up : List Location → List Pair
pair_up [] = []
pair_up (b ∷ []) = []
pair_up (b ∷ d ∷ ls) = record { base = b; derived = d } ∷ pair_up ls

-- the rest are pairs, base first, numbered from 0
unfoldable pub pairs : Record → List Pair
pairs r = pair_up (drop (pairs_at r) r.locations)

-- a constant equal to 0 (kind 4 or 5)
unfoldable pub is_zero : List ℕ → Location → Bool
is_zero pool l = eqb (constant_of pool l) 0 && (eqb l.kind kind_constant || eqb l.kind kind_const_index)

-- a pair is null if both locations are constants equal to 0
unfoldable pub is_null : List ℕ → Pair → Bool
is_null pool p = is_zero pool p.base && is_zero pool p.derived

-- The size of a location. In version 1, whose second byte of a location may hold any number, it is 0 or 8, and means one pointer; in version 3
-- a size of 8N bytes, N from 1 to 256, means N pointers one after another. `old` is true for version 1.

unfoldable pub size_right : Bool → ℕ → Bool
size_right true n = eqb n pointer_size || eqb n 0
size_right false n = eqb (n % pointer_size) 0 && (leb 1 (n / pointer_size) && leb (n / pointer_size) location_most)

unfoldable pub pointers_in : Bool → ℕ → ℕ
pointers_in true n = 1
pointers_in false n = n / pointer_size

-- the machine's frame pointer or stack pointer
unfoldable pub is_frame_or_stack : Machine → ℕ → Bool
is_frame_or_stack m r = eqb r (frame_pointer m) || eqb r (stack_pointer m)

-- slots in memory: kind 3, the right size, and the machine's frame or stack pointer
unfoldable pub is_memory_slot : Machine → Bool → Location → Bool
is_memory_slot m old l = eqb l.kind kind_indirect && (size_right old l.size && is_frame_or_stack m l.register)

-- a register is one slot: kind 1, size 8 (0 too in version 1), offset 0, a register under 16 on AMD64 or under 32 on AArch64, the machine's
-- stack and frame pointer excepted
unfoldable pub is_register_slot : Machine → Bool → Location → Bool
is_register_slot m old l =
    eqb l.kind kind_register
    && ((eqb l.size pointer_size || (old && eqb l.size 0))
    && (eqb l.offset 0
    && (ltb l.register (general_registers m) && not (is_frame_or_stack m l.register))))

unfoldable pub is_slot : Machine → Bool → Location → Bool
is_slot m old l = is_memory_slot m old l || is_register_slot m old l

-- in version 3 both locations of a pair have equal size
unfoldable pub same_size : Bool → Pair → Bool
same_size old p = old || eqb p.base.size p.derived.size

-- otherwise both must be slots, in memory or registers in any mix
unfoldable pub right_form : Machine → Bool → List ℕ → Pair → Bool
right_form m old pool p = is_null pool p || (is_slot m old p.base && (is_slot m old p.derived && same_size old p))

-- what the register holds that a slot in memory names
unfoldable pub register_of : Cursor → Location → ℕ
register_of f l = cond (eqb l.register (frame_pointer f.machine)) f.fp f.sp

-- register plus offset, worked out as a whole number without wrapping: there is no address below 0
abbrev pub plus_offset : ℕ → Offset → Option ℕ
plus_offset content (up n) = some (content + n)
plus_offset content (down n) = cond (leb n content) (some (content - n)) none

-- a slot in memory is 8 bytes; the first one of a location starts at this address
unfoldable pub slot_address : Cursor → Location → Option ℕ
slot_address f l = plus_offset (register_of f l) (as_offset l.offset)

-- slot number i of a location, in memory by its address: it starts so many bytes after the first; a register is one slot
abbrev pub onward : ℕ → Option ℕ → Option Slot
onward n none = none
onward n (some a) = some (memory (a + n))

unfoldable pub is_register : Location → Bool
is_register l = eqb l.kind kind_register

unfoldable pub slot_number : Cursor → Location → ℕ → Option Slot
slot_number f l i = cond (is_register l) (some (register l.register)) (onward (pointer_size * i) (slot_address f l))

-- k slots, the first of them at this address, lie wholly in the n bytes from the stack pointer
abbrev pub wholly : ℕ → ℕ → ℕ → Option ℕ → Bool
wholly sp n k none = false
wholly sp n k (some a) = leb sp a && leb (a + pointer_size * k) (sp + n)

-- a register is in no memory, and so never outside
unfoldable pub slots_inside : Bool → Cursor → ℕ → Location → Bool
slots_inside old f n l = is_register l || wholly f.sp n (pointers_in old l.size) (slot_address f l)

unfoldable pub inside : Bool → List ℕ → Cursor → ℕ → Pair → Bool
inside old pool f n p = is_null pool p || (slots_inside old f n p.base && slots_inside old f n p.derived)

-- the first slot of a location: a register, or in memory, where it starts so many bytes after the stack pointer if it is inside
unfoldable pub slot_at : Cursor → Location → Slot
slot_at f l = cond (is_register l) (register l.register) (memory (or_zero (slot_address f l) - f.sp))

-- the slot after it in memory; a register is one slot, so that none follows it
abbrev pub next : Slot → Slot
next (memory a) = memory (a + pointer_size)
next (register r) = register r

-- n pointers, from these two slots on, in rising address order
abbrev pub pointers_from : ℕ → Slot → Slot → List Pointer
pointers_from zero b d = []
pointers_from (suc n) b d = slots b d ∷ pointers_from n (next b) (next d)

-- the pointers of a pair, by their slots, those in memory counted from the stack pointer; a null pair is one pointer, without slots
unfoldable pub pointers_of : Bool → List ℕ → Cursor → Pair → List Pointer
pointers_of old pool f p =
    cond (is_null pool p) (null ∷ []) (pointers_from (pointers_in old p.base.size) (slot_at f p.base) (slot_at f p.derived))
