-- For the code alone: nothing here has to be believed.
-- What the code's arrays and values hold. Pair k is null where `live` is 0 at k; `bases` and `derived` are its slots, as numbers.
use Rattle.std.specs.Prelude.{ℕ, zero, suc, ◌+◌, ◌-◌, ◌/◌, ◌%◌, ◌≤◌, ◌<◌, ◌≡◌, Bool, false, cond, not, ◌&&◌, ◌||◌, List, [], ◌∷◌, eqb, ltb, get_or, set, Some, None}
use Rattle.std.specs.Prelude as code
use Rattle.std.proofs.Math.Option.{Option, none, some}
use Rattle.moves.specs.declared.Move.{Move}
use Rattle.moves.specs.Limits.{pointer_size}
use Rattle.moves.specs.Search.{lowest, any_below}
use Rattle.moves.specs.Slots.{Slot, memory, register, State, read, put}
use Rattle.moves.specs.Pointers.{Pointer, null, slots, is_none, new_derived, new_content}
use Rattle.moves.specs.Settle.{settled}

-- the code's `Option`, as the definitions' own
abbrev pub as_option : code.Option ℕ → Option ℕ
as_option (Some n) = some n
as_option None = none

-- Slots as numbers: a slot in memory is its first byte, and register r is registers_from + 8 * r. Registers so lie past every window, and
-- a pointer's size apart.

abbrev pub registers_from : ℕ
registers_from = 4294967296

unfoldable pub slot_of : ℕ → Slot
slot_of x = cond (ltb x registers_from) (memory x) (register ((x - registers_from) / pointer_size))

-- the number is one of a slot in a window of m bytes, or of one of so many registers
pub record Placed (m registers x : ℕ) : Type 0 where
  pub in_window : x < registers_from → x + pointer_size ≤ m
  pub in_list : registers_from ≤ x → (x - registers_from) / pointer_size < registers
  pub apart : registers_from ≤ x → (x - registers_from) % pointer_size ≡ 0

-- two numbers share a byte and are not the same; of two pairs; and two pairs clash
unfoldable pub overlap_at : ℕ → ℕ → Bool
overlap_at x y = not (eqb x y) && (ltb x (y + pointer_size) && ltb y (x + pointer_size))

unfoldable pub any_overlap_at : ℕ → ℕ → ℕ → ℕ → Bool
any_overlap_at b d b' d' = overlap_at b b' || (overlap_at b d' || (overlap_at d b' || overlap_at d d'))

unfoldable pub slots_clash_at : ℕ → ℕ → ℕ → ℕ → ℕ → ℕ → Bool
slots_clash_at b d v b' d' v' = any_overlap_at b d b' d' || (eqb d d' && not (eqb v v'))

-- the pointers that the arrays hold
unfoldable pub pointer_at : List ℕ → List ℕ → List ℕ → ℕ → Pointer
pointer_at live bases derived k = cond (eqb (get_or live k 0) 0) null (slots (slot_of (get_or bases k 0)) (slot_of (get_or derived k 0)))

abbrev pub list_from : (ℕ → Pointer) → ℕ → ℕ → List Pointer
list_from f zero i = []
list_from f (suc k) i = f i ∷ list_from f k (suc i)

unfoldable pub pointers_of : ℕ → List ℕ → List ℕ → List ℕ → List Pointer
pointers_of n live bases derived = list_from (pointer_at live bases derived) n 0

-- each number of the first n ends at most at m
pub record Within (m n : ℕ) (live bases derived : List ℕ) : Type 0 where
  pub base_in : (k : ℕ) → k < n → (get_or live k 0 ≡ 0 → ⊥) → get_or bases k 0 + pointer_size ≤ m
  pub derived_in : (k : ℕ) → k < n → (get_or live k 0 ≡ 0 → ⊥) → get_or derived k 0 + pointer_size ≤ m

-- each slot of the first n is one of a window of m bytes, or of so many registers
pub record AllPlaced (m registers n : ℕ) (live bases derived : List ℕ) : Type 0 where
  pub base_in : (k : ℕ) → k < n → (get_or live k 0 ≡ 0 → ⊥) → Placed m registers (get_or bases k 0)
  pub derived_in : (k : ℕ) → k < n → (get_or live k 0 ≡ 0 → ⊥) → Placed m registers (get_or derived k 0)

-- the first n of vs hold f's values, null pairs apart
pub record Filled (f : ℕ → ℕ) (live vs : List ℕ) (n : ℕ) : Type 0 where
  pub at : (k : ℕ) → k < n → (get_or live k 0 ≡ 0 → ⊥) → get_or vs k 0 ≡ f k

-- pairs p and q clash, by the old bases that vs holds
unfoldable pub clash_at : List ℕ → List ℕ → List ℕ → List ℕ → ℕ → ℕ → Bool
clash_at live bases derived vs p q =
    cond (eqb (get_or live p 0) 0) false
    (cond (eqb (get_or live q 0) 0) false
    (slots_clash_at (get_or bases p 0) (get_or derived p 0) (get_or vs p 0) (get_or bases q 0) (get_or derived q 0) (get_or vs q 0)))

unfoldable pub first_clash : List ℕ → List ℕ → List ℕ → List ℕ → ℕ → ℕ
first_clash live bases derived vs n = lowest (λ p. any_below (clash_at live bases derived vs p) (suc p)) n

unfoldable pub unknown_at : (ℕ → Option ℕ) → List ℕ → List ℕ → ℕ → Bool
unknown_at table live vs p = cond (eqb (get_or live p 0) 0) false (is_none (table (get_or vs p 0)))

unfoldable pub first_unknown : (ℕ → Option ℕ) → List ℕ → List ℕ → ℕ → ℕ
first_unknown table live vs n = lowest (unknown_at table live vs) n

-- the new content of a derived slot, by its old one and the old base; none if the base is unknown
unfoldable pub content_of : (ℕ → Option ℕ) → ℕ → ℕ → Option ℕ
content_of table derived base = cond (is_none (table base)) none (some (new_derived table derived base))

-- the new content of pair k, by the derived slot's content in w and the old base in vs
abbrev pub renewed : (ℕ → Option ℕ) → State → List ℕ → List ℕ → ℕ → ℕ
renewed table w derived vs k = new_derived table (read w (slot_of (get_or derived k 0))) (get_or vs k 0)

-- whether the base of pair k is unknown; and if it isn't, vs with the pair's new content in place of the old base
pub record RenewsOne (table : ℕ → Option ℕ) (w : State) (live derived vs : List ℕ) (k : ℕ) (r : Bool) (after : List ℕ) : Type 0 where
  pub answer : r ≡ unknown_at table live vs k
  pub left : r ≡ false → after ≡ cond (eqb (get_or live k 0) 0) vs (set vs k (renewed table w derived vs k))

-- the first of n pairs whose base is unknown; and if none is, the new contents
pub record Renews (table : ℕ → Option ℕ) (w : State) (live derived vs : List ℕ) (n r : ℕ) (after : List ℕ) : Type 0 where
  pub answer : r ≡ first_unknown table live vs n
  pub left : n ≤ r → Filled (renewed table w derived vs) live after n

-- an answer to the pairs of a window, and where it accepts them the new contents of their derived slots
pub record Judges (table : ℕ → Option ℕ) (w : State) (live bases derived : List ℕ) (n : ℕ) (r : Move) (after : List ℕ) : Type 0 where
  pub answer : r ≡ settled table (pointers_of n live bases derived) w
  pub contents : r.number ≡ 0 → Filled (λ k. new_content table w (slot_of (get_or bases k 0)) (slot_of (get_or derived k 0))) live after n

-- the numbers of cs put into the slots, one after the other: k of them, from pair i
unfoldable pub put_one : List ℕ → List ℕ → List ℕ → ℕ → State → State
put_one live derived cs i cur = cond (eqb (get_or live i 0) 0) cur (put cur (slot_of (get_or derived i 0)) (get_or cs i 0))

abbrev pub puts : List ℕ → List ℕ → List ℕ → ℕ → ℕ → State → State
puts live derived cs zero i cur = cur
puts live derived cs (suc k) i cur = puts live derived cs k (suc i) (put_one live derived cs i cur)
