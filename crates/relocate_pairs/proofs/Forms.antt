-- The tests of one pair, as the code makes them one after the other.
use Prim.Native.Nat.{ℕ, ◌+◌, ◌*◌, ◌-◌, ◌≤◌, ◌<◌}
use mathlib.Core.Path.{◌≡◌, refl, sym, ap, ◌∙◌}
use mathlib.Core.Bool.{Bool, true, false, not}
use mathlib.Core.Option.{none, some}
use mathlib.Core.List.{List}
use native.Mathlib.Omega.{arith}
use Rattle.stackmap.specs.Section.{Location, Record}
use Rattle.questions.specs.declared.LocationAnswer.{LocationAnswer}
use Rattle.questions.specs.Questions.{this_location}
use Rattle.moves.specs.Search.{lowest_from, lowest}
use Rattle.moves.proofs.Searches.{low-start, low_end, low-hit, low_step}
use Rattle.relocate.specs.declared.Cursor.{Cursor}
use Rattle.relocate.specs.declared.Machine.{Machine}
use Rattle.relocate.specs.Statepoint.{pairs_at, Pair, is_zero, is_null, same_size, right_form, slots_inside}
use Rattle.relocate.specs.Code.{pair_from, pair_number, location_of, zero_said, null_said, form_said, number_of, slot_in}

-- what the reader says of a location is said of the location
module _ (a : LocationAnswer) (pool : List ℕ) (l : Location) (e : a ≡ this_location pool l) where
  pub zero_said_lem : zero_said a ≡ is_zero pool l
  unfolding zero_said is_zero
  zero_said_lem = ap zero_said e

  pub location_said : location_of a ≡ l
  location_said = ap location_of e

  pub place-said : (old : Bool) (f : Cursor) (n : ℕ) → slot_in old f n (location_of a) ≡ slot_in old f n l
  place-said old f n = ap (λ (x : LocationAnswer). slot_in old f n (location_of x)) e

-- and so of the two of a pair
module _ (b d : LocationAnswer) (pool : List ℕ) (p : Pair) (eb : b ≡ this_location pool p.base) (ed : d ≡ this_location pool p.derived) where
  pub null-said : null_said b d ≡ is_null pool p
  unfolding null_said is_null
  null-said = rw (zero_said_lem b pool p.base eb, zero_said_lem d pool p.derived ed)

  pub form_said_lem : (m : Machine) (old : Bool) → form_said m old b d ≡ right_form m old pool p
  unfolding form_said right_form same_size
  form_said_lem m old = rw (null-said, eb, ed)

-- a slot that is inside has its number
module _ (old : Bool) (f : Cursor) (n : ℕ) (l : Location) where
  pub at-inside : (x : ℕ) → some x ≡ slot_in old f n l → (true ≡ slots_inside old f n l) × (x ≡ number_of f l)
  unfolding slot_in
  at-inside x h = go (slots_inside old f n l) refl
    where
      go : (b : Bool) → slots_inside old f n l ≡ b → (true ≡ slots_inside old f n l) × (x ≡ number_of f l)
      go true q = (sym q, let w : some x ≡ some (number_of f l) = rw q at h in cc)
      go false q = absurd (let w : some x ≡ none = rw q at h in let z : ◌≡◌ {A = ℕ} 0 1 = cc in omega arith)

  pub out_inside : none ≡ slot_in old f n l → false ≡ slots_inside old f n l
  unfolding slot_in
  out_inside h = go (slots_inside old f n l) refl
    where
      go : (b : Bool) → slots_inside old f n l ≡ b → false ≡ slots_inside old f n l
      go true q = absurd (let w : none ≡ some (number_of f l) = rw q at h in let z : ◌≡◌ {A = ℕ} 0 1 = cc in omega arith)
      go false q = sym q

-- a pair by its base's location number, and by its own
pub pair-from : (r : Record) (start p : ℕ) → start ≡ pairs_at r → pair_from r (start + 2 * p) ≡ pair_number r p
pair-from r start p e = rw e

-- A search for the lowest of n pairs that is not good.

module _ (good : Pair → Bool) (r : Record) where
  abbrev pub bad : ℕ → Bool
  bad p = not (good (pair_number r p))

  -- the pairs before p are good
  pub record Looking (n p : ℕ) : Type 0 where
    pub most : p ≤ n
    pub same : lowest_from bad (n - p) p ≡ lowest bad n

  pub look-start : (n : ℕ) → Looking n 0
  look-start n = record { most = omega arith; same = low-start bad n }

module _ {good : Pair → Bool} {r : Record} {n p : ℕ} (l : Looking good r n p) where
  pub look-end : n ≤ p → p ≡ lowest (bad good r) n
  look-end h = sym (low_end (bad good r) n p h) ∙ l.same

  -- the next pair has its base at location number start + 2 * p
  module _ {start : ℕ} (e : start ≡ pairs_at r) (h : p < n) where
    pub look_on : good (pair_from r (start + 2 * p)) ≡ true → Looking good r n (p + 1)
    look_on g = record { most = omega arith; same = sym (low_step (bad good r) n p h (ap not (sym (ap good (pair-from r start p e)) ∙ g))) ∙ l.same }

    pub look_hit : good (pair_from r (start + 2 * p)) ≡ false → p ≡ lowest (bad good r) n
    look_hit g = sym (low-hit (bad good r) n p h (ap not (sym (ap good (pair-from r start p e)) ∙ g))) ∙ l.same
