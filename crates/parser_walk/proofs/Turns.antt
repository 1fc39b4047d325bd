-- The owners ahead of a walk over the records of a listing.
use Prim.Native.Nat.{ℕ, ◌+◌, ◌*◌, ◌-◌, ◌<◌}
use mathlib.Core.Path.{◌≡◌, refl}
use mathlib.Core.Bool.{Bool, true, false}
use mathlib.Core.List.{List, ◌∷◌, append-nil}
use native.Mathlib.Omega.{arith}
use lib.ListN.{length}
use Rattle.stackmap.specs.Section.{record_owners}
use Rattle.stackmap.proofs.Steps.{replicate_step, owners_step, owners-some}
use Rattle.listing.specs.Listing.{listed_function}
use Rattle.parser_items.specs.Survey.{functions_of}
use Rattle.parser_fault.specs.Walk.{listed_owner, later_owners, ahead}

module _ (l : List ℕ) (n : ℕ) where
  -- version 3: the first function is next
  pub ahead-start : (records : ℕ) → ahead l false n 0 0 ≡ record_owners false records (functions_of l n)
  unfolding ahead later_owners record_owners
  ahead-start records = let z : n - 0 ≡ n = omega arith in rw z

  -- version 1: all records are nobody's
  pub ahead-old : (records : ℕ) → ahead l true n 1 records ≡ record_owners true records (functions_of l n)
  unfolding ahead later_owners listed_owner record_owners
  ahead-old records = rw append-nil

  -- the next record belongs to the function before `next`
  pub ahead-one : (old : Bool) (next left : ℕ) → 0 < left → ahead l old n next left ≡ listed_owner l old (next - 1) ∷ ahead l old n next (left - 1)
  unfolding ahead
  ahead-one old next left h = replicate_step left _ _ h

  -- no record is left of a function: those of the next one follow
  pub ahead-next : (next : ℕ) → next < n → ahead l false n next 0 ≡ ahead l false n (next + 1) (listed_function l (25 * next)).count
  unfolding ahead later_owners listed_owner
  ahead-next next h =
      let d : 25 * next + 25 ≡ 25 * (next + 1) = omega arith in
      let e : next + 1 - 1 ≡ next = omega arith in
      rw (owners_step listed_function 25 n l (25 * next) next h, d, e)

  -- records are ahead and none is left: the functions have counts, and not all of them are passed
  pub ahead-some : (old : Bool) (next : ℕ) → 0 < length (ahead l old n next 0) → (old ≡ false) × (next < n)
  unfolding ahead later_owners
  ahead-some true next h = absurd (omega arith)
  ahead-some false next h = (refl, let z = owners-some listed_function 25 (n - next) l (25 * next) next h in omega arith)
