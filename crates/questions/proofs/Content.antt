-- What stands in a record, read by its number.
use Prim.Native.Nat.{ℕ, zero, suc, ◌+◌, ◌*◌, ◌-◌, ◌%◌, ◌^◌, ◌≤◌, ◌<◌}
use mathlib.Core.Path.{◌≡◌, refl, sym, ◌∙◌}
use mathlib.Core.Bool.{Bool, true, false}
use mathlib.Core.Option.{none, some}
use mathlib.Core.List.{List, [], ◌∷◌}
use native.Mathlib.Omega.{arith}
use native.Mathlib.Nat.{mul-suc, add_assoc}
use borrow.Author.Tests.{eq-eqb, ne_eqb, lt-ltb, le-ltb}
use lib.ListN.{length, get_or, drop, get_elem?}
use Rattle.wire.specs.Word.{word}
use Rattle.wire.proofs.Laws.{word-drop}
use Rattle.stackmap.specs.Layout.{location_size}
use Rattle.stackmap.specs.Fields.{many}
use Rattle.stackmap.specs.Section.{Location, num_constants, constants_at, read_constant, read_location, read_live_out, num_locations, num_live_outs, record_length, read_record, read_section}
use Rattle.stackmap.specs.Shape.{RecordLayout}
use Rattle.stackmap.proofs.Parts.{many-some, many-none, get_d_some, count-live_outs}
use Rattle.questions.specs.Questions.{constant_of}

get_d_none : (xs : List ℕ) (j : ℕ) → get_elem? xs j ≡ none → get_or xs j 0 ≡ 0
get_d_none [] j h = refl
get_d_none (x ∷ xs) zero h = absurd (let z : ◌≡◌ {A = ℕ} 0 1 = cc in omega arith)
get_d_none (x ∷ xs) (suc j) h = get_d_none xs j h

-- the pool

module _ (s : List ℕ) (o : ℕ) where
  pub pool-entry : o < num_constants s → get_or (read_section s).constants o 0 ≡ word 8 s (constants_at s + 8 * o)
  unfolding read_section read_constant
  pool-entry h = get_d_some 0 (many read_constant 8 (num_constants s) s (constants_at s)) o _ (many-some read_constant 8 (num_constants s) s (constants_at s) o h)

  pub pool-none : num_constants s ≤ o → get_or (read_section s).constants o 0 ≡ 0
  unfolding read_section
  pool-none h = get_d_none (many read_constant 8 (num_constants s) s (constants_at s)) o (many-none read_constant 8 (num_constants s) s (constants_at s) o h)

-- the constant of a location, by its kind

module _ (pool : List ℕ) (l : Location) where
  pub constant-plain : l.kind ≡ 4 → l.offset < 2 ^ 31 → constant_of pool l ≡ l.offset
  unfolding constant_of
  constant-plain k o = rw (eq-eqb _ _ k, lt-ltb _ _ o)

  pub constant_negative : l.kind ≡ 4 → 2 ^ 31 ≤ l.offset → constant_of pool l ≡ l.offset + (2 ^ 64 - 2 ^ 32)
  unfolding constant_of
  constant_negative k o = rw (eq-eqb _ _ k, le-ltb _ _ o)

  pub constant-pool : l.kind ≡ 5 → constant_of pool l ≡ get_or pool l.offset 0
  unfolding constant_of
  constant-pool k = rw (ne_eqb l.kind 4 (λ z. omega arith), eq-eqb _ _ k)

  pub constant-none : (l.kind ≡ 4 → ⊥) → (l.kind ≡ 5 → ⊥) → constant_of pool l ≡ 0
  unfolding constant_of
  constant-none k₄ k₅ = rw (ne_eqb _ _ k₄, ne_eqb _ _ k₅)

times_up : (a m n : ℕ) → m ≤ n → a * m ≤ a * n
times_up a m zero h = let z : m ≡ 0 = omega arith in rw z (omega arith)
times_up a zero (suc n) h = omega arith
times_up a (suc m) (suc n) h = let i = times_up a m n (omega arith) in omega arith

-- The record at the place `first` of s.

location_here : (old : Bool) (s : List ℕ) (first at : ℕ) → read_location old (drop first s) at ≡ read_location old s (first + at)
unfolding read_location
location_here true s first at = simp (word-drop, ← add_assoc)
location_here false s first at = simp (word-drop, ← add_assoc)

module _ (old : Bool) (s : List ℕ) (first : ℕ) where
  -- it has n locations, as its head says
  module _ (n : ℕ) (locations : n ≡ word 2 s (first + 14)) where
    num_here : num_locations (drop first s) ≡ n
    num_here = rw word-drop (sym locations)

    -- each of its locations is inside, where it is
    pub location_inside : (j : ℕ) → j < n → first + record_length old (drop first s) ≤ length s → first + 16 + location_size old * j + location_size old ≤ length s
    unfolding record_length
    location_inside j h i =
        let k : j + 1 ≤ num_locations (drop first s) = rw num_here (omega arith) in
        let m = times_up (location_size old) (j + 1) (num_locations (drop first s)) k in
        omega arith

    pub location_at_lem : (j : ℕ) → j < n → get_elem? (read_record old (drop first s)).locations j ≡ some (read_location old s (first + 16 + location_size old * j))
    unfolding read_record
    location_at_lem j h =
        let p : first + (16 + location_size old * j) ≡ first + 16 + location_size old * j = omega arith in
        rw (num_here, many-some (read_location old) (location_size old) n (drop first s) 16 j h, location_here old s first (16 + location_size old * j), p)

    pub location_past : (j : ℕ) → n ≤ j → get_elem? (read_record old (drop first s)).locations j ≡ none
    unfolding read_record
    location_past j h = rw (num_here, many-none (read_location old) (location_size old) n (drop first s) 16 j h)

  live_out_here : (at : ℕ) → read_live_out (drop first s) at ≡ read_live_out s (first + at)
  unfolding read_live_out
  live_out_here at = simp (word-drop, ← add_assoc)

  -- its layout, as the reader tells it
  module _ {locations outs begin size : ℕ} (h : RecordLayout old (drop first s) locations outs begin size) where
    outs-here : num_live_outs old (drop first s) ≡ outs
    outs-here = sym (h.outs_are ∙ count-live_outs old (drop first s))

    -- each of its live-outs is inside
    pub live_out_inside : (j : ℕ) → j < outs → first + record_length old (drop first s) ≤ length s → first + begin + 4 * j + 4 ≤ length s
    unfolding record_length
    live_out_inside j l i = let b = h.begins in let o = outs-here in omega arith

    pub live_out_at : (j : ℕ) → j < outs → get_elem? (read_record old (drop first s)).live_outs j ≡ some (read_live_out s (first + begin + 4 * j))
    unfolding read_record
    live_out_at j l =
        let p : first + (begin + 4 * j) ≡ first + begin + 4 * j = omega arith in
        rw (outs-here, ← h.begins, many-some read_live_out 4 outs (drop first s) begin j l, live_out_here _, p)

    pub live_out_past : (j : ℕ) → outs ≤ j → get_elem? (read_record old (drop first s)).live_outs j ≡ none
    unfolding read_record
    live_out_past j l = rw (outs-here, many-none read_live_out 4 outs (drop first s) _ j l)
