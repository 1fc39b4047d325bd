-- Request 11 without the self pair: one pointer, whose base slot is not listed with itself, and two ways in which the claim fails.
use Prim.Native.Nat.{ℕ, zero, suc, ◌/◌, ◌<◌, ◌^◌}
use mathlib.Core.Path.{◌≡◌, refl, ap}
use mathlib.Core.Option.{Option}
use mathlib.Core.List.Memᴰ
use mathlib.Core.List.{List, [], ◌∷◌, ◌++◌}
use native.Mathlib.Omega.{arith}
use lib.ListN.{get_or}
use Rattle.wire.specs.Word.{Bytes, word, bytes}
use Rattle.moves.specs.Slots.{memory, State, read, same, overlap}
use Rattle.moves.specs.Pointers.{Pointer, slots, any_overlap, slots_clash, clash, new_derived, new_content}
use Rattle.moves.specs.Search.{lowest}
use Rattle.moves.specs.Settle.{accepted_move, refused_move, at_lowest, first20, first21, settled, settle}
use Rattle.moves.specs.Table.{rising, no_zero, table_right, look_up}
use Rattle.moves_twice.specs.Joined.{joined}
use Rattle.moves_twice.specs.Pointers.{Words}
use Rattle.moves.proofs.Writes.{Inside}
use Rattle.moves_twice.proofs.TwoMoves.{Plain, Ready, OneMove, look_joined}

abbrev pub pointers : List Pointer
pointers = slots (memory 0) (memory 8) ∷ []

-- the base is 16, and the derived pointer 20
abbrev pub start : State
start = record { window = bytes 8 16 ++ (bytes 8 20 ++ []); registers = [] }

bytes-bytes : (k v : ℕ) (s : List ℕ) → Bytes s → Bytes (bytes k v ++ s)
unfolding bytes
bytes-bytes zero v s h = h
bytes-bytes (suc k) v s h = record { below = go (bytes-bytes k (v / 256) s h) }
  where
    go : Bytes (bytes k (v / 256) ++ s) → (i : ℕ) → get_or (bytes (suc k) v ++ s) i 0 < 256
    go r zero = omega arith
    go r (suc i) = r.below i

start_plain : Plain start
start_plain =
    record {
      window = bytes-bytes 8 16 (bytes 8 20 ++ []) (bytes-bytes 8 20 [] (record { below = λ i. omega arith }));
      registers = record { below = λ i. omega arith };
    }

start-inside : Inside start pointers
unfolding bytes
start-inside b d m = let e : slots b d ≡ slots (memory 0) (memory 8) = Memᴰ.eq_of_singleton m in let f : d ≡ memory 8 = cc in rw f (omega arith)

one_word : (n : ℕ) → n < 2 ^ 64 → Words (n ∷ [])
one_word n h = record { below = go }
  where
    go : (i : ℕ) → get_or (n ∷ []) i 0 < 2 ^ 64
    go zero = h
    go (suc i) = omega arith

-- The object goes from 16 to 32 and on to 48. The second move finds the old base, 16, and refuses; the joined one is accepted.

abbrev first : ℕ → Option ℕ
first = look_up (16 ∷ []) (32 ∷ [])

abbrev second : ℕ → Option ℕ
second = look_up (32 ∷ []) (48 ∷ [])

abbrev first_then_second : ℕ → Option ℕ
first_then_second = look_joined (16 ∷ []) (32 ∷ []) (32 ∷ []) (48 ∷ [])

pub refused-ready : Ready (16 ∷ []) (32 ∷ []) (32 ∷ []) (48 ∷ []) pointers start
unfolding table_right rising no_zero
refused-ready = record { right = refl; right2 = refl; starts = one_word 32 (omega arith); inside = start-inside; plain = start_plain }

pub refused-second : (settled first pointers start ≡ accepted_move 1)
    × (settled second pointers (settle first pointers start) ≡ refused_move 21 0)
    × (settled first_then_second pointers start ≡ accepted_move 1)
unfolding settled settle at_lowest first20 first21 lowest clash slots_clash any_overlap overlap same new_content new_derived look_up word bytes
refused-second = (refl, refl, refl)

pub refused_fails : OneMove first second first_then_second pointers start → ⊥
refused_fails h =
    let a : (settled second pointers (settle first pointers start)).number ≡ 0 = (h.accepted.1 (ap (λ m. m.number) refused-second.2)).1 in
    omega (arith, ap (λ m. m.number) refused-second.1)

-- The second table also holds 16, as the old start of another object, which goes to 64. Both moves are accepted, and the derived pointer
-- is moved twice from the same base: to 20 + (32 - 16) + (64 - 16), and not to 20 + (48 - 16).

abbrev other : ℕ → Option ℕ
other = look_up (16 ∷ 32 ∷ []) (64 ∷ 48 ∷ [])

abbrev first_then_other : ℕ → Option ℕ
first_then_other = look_joined (16 ∷ []) (32 ∷ []) (16 ∷ 32 ∷ []) (64 ∷ 48 ∷ [])

pub unequal_ready : Ready (16 ∷ []) (32 ∷ []) (16 ∷ 32 ∷ []) (64 ∷ 48 ∷ []) pointers start
unfolding table_right rising no_zero
unequal_ready = record { right = refl; right2 = refl; starts = one_word 32 (omega arith); inside = start-inside; plain = start_plain }

pub unequal_accepted : (settled first pointers start ≡ accepted_move 1)
    × (settled other pointers (settle first pointers start) ≡ accepted_move 1)
    × (settled first_then_other pointers start ≡ accepted_move 1)
unfolding settled settle at_lowest first20 first21 lowest clash slots_clash any_overlap overlap same new_content new_derived look_up word bytes
unequal_accepted = (refl, refl, refl)

pub unequal_derived : (read (settle other pointers (settle first pointers start)) (memory 8) ≡ 84)
    × (read (settle first_then_other pointers start) (memory 8) ≡ 52)
unfolding settled settle at_lowest first20 first21 lowest clash slots_clash any_overlap overlap same new_content new_derived look_up word bytes
unequal_derived = (refl, refl)

pub unequal_fails : OneMove first other first_then_other pointers start → ⊥
unequal_fails h =
    let e = h.left (ap (λ m. m.number) unequal_accepted.2) in
    omega (arith, unequal_derived.0, unequal_derived.1, ap (λ (w : State). read w (memory 8)) e)

-- With the self pair the same two moves agree: the base ends at 48 and the derived pointer at 52.

abbrev pub with_self : List Pointer
with_self = slots (memory 0) (memory 8) ∷ slots (memory 0) (memory 0) ∷ []

pub self_accepted : (settled first with_self start ≡ accepted_move 2)
    × (settled other with_self (settle first with_self start) ≡ accepted_move 2)
    × (settled first_then_other with_self start ≡ accepted_move 2)
unfolding settled settle at_lowest first20 first21 lowest clash slots_clash any_overlap overlap same new_content new_derived look_up word bytes
self_accepted = (refl, refl, refl)

pub self_left : (settle other with_self (settle first with_self start) ≡ record { window = bytes 8 48 ++ bytes 8 52; registers = [] })
    × (settle first_then_other with_self start ≡ record { window = bytes 8 48 ++ bytes 8 52; registers = [] })
unfolding settled settle at_lowest first20 first21 lowest clash slots_clash any_overlap overlap same new_content new_derived look_up word bytes
self_left = (refl, refl)
