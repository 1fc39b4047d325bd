-- What the search for a frame's record tells of its plan.
use Prim.Native.Nat.{ℕ, ◌≤◌, ◌<◌}
use mathlib.Core.Path.{◌≡◌, refl, ap, ◌∙◌}
use mathlib.Core.List.{List, [], ◌∷◌}
use native.Mathlib.Omega.{arith}
use lib.ListN.{length}
use Rattle.wire.specs.Word.{Bytes}
use Rattle.stackmap.specs.Section.{Function, num_functions, constants_at, Entry}
use Rattle.stackmap.specs.Walk.{function_number}
use Rattle.stackmap.specs.Check.{Accepted}
use Rattle.stackmap.proofs.Entries.{entry-body, entry-inside}
use Rattle.questions.specs.declared.Found.{Found}
use Rattle.questions.specs.Questions.{first_of, sought}
use Rattle.questions.proofs.Standing.{tables-inside}
use Rattle.questions.proofs.Searched as searched
use Rattle.moves.specs.Plan.{Plan, refuse}
use Rattle.relocate.specs.Plan.{only, stack_size}
use Rattle.relocate.specs.Code.{record_of, RecordInside}

-- one record, or none, or more
module _ (r : Found) (k : Entry → Plan) where
  pub none_found : (es : List Entry) → r ≡ first_of es → (r.number ≡ 0 → ⊥) → only es k ≡ refuse 10 0
  unfolding only
  none_found [] e h = refl
  none_found (x ∷ es) e h = absurd (h (ap (λ (f : Found). f.number) e))

  pub several_found : (es : List Entry) → r ≡ first_of es → r.number ≡ 0 → (r.sharing ≡ 1 → ⊥) → only es k ≡ refuse 15 0
  unfolding only
  several_found [] e h n = absurd (let z = ap (λ (f : Found). f.number) e in omega arith)
  several_found (x ∷ []) e h n = absurd (n (ap (λ (f : Found). f.sharing) e))
  several_found (x ∷ y ∷ es) e h n = refl

  pub record One (es : List Entry) : Type 0 where
    pub entry : Entry
    pub alone : es ≡ entry ∷ []
    pub goes_on : only es k ≡ k entry
    pub function_is : r.function ≡ entry.owner.number
    pub first_is : r.first ≡ entry.first

  pub one_found : (es : List Entry) → r ≡ first_of es → r.number ≡ 0 → r.sharing ≡ 1 → One es
  unfolding only
  one_found [] e h n = absurd (let z = ap (λ (f : Found). f.number) e in omega arith)
  one_found (x ∷ []) e h n =
      record {
        entry = x;
        alone = refl;
        goes_on = refl;
        function_is = ap (λ (f : Found). f.function) e;
        first_is = ap (λ (f : Found). f.first) e;
      }
  one_found (x ∷ y ∷ es) e h n = absurd (let z = ap (λ (f : Found). f.sharing) e in omega arith)

-- the one record that a frame names in an accepted section
module _ (s : List ℕ) (function address : ℕ) (k : Accepted s) (w : Bytes s) (e : Entry) (one : sought s function address ≡ e ∷ []) where
  there : searched.One s e
  there = searched.sought-one s function address e one

  pub stands : RecordInside s e.first
  stands =
      let o = there in
      rw o.first_is (record { tables = tables-inside s (length s) k; inside = (entry-inside s (length s) k w o.entry o.member).1 })

  pub body_is : e.body ≡ record_of s e.first
  body_is = let o = there in rw o.first_is (o.body_is ∙ entry-body s o.entry o.member)

  pub owner-number : e.owner.number < num_functions s
  owner-number = there.owner-there

  pub size_is : stack_size e ≡ (function_number s e.owner.number).stack_size
  size_is = ap (λ (x : Function). x.stack_size) there.function_is

-- the functions of an accepted section are inside
pub functions_inside : (s : List ℕ) → Accepted s → constants_at s ≤ length s
functions_inside s k = let t = tables-inside s (length s) k in omega arith

-- where what was found stands
module _ (s : List ℕ) (function address : ℕ) (k : Accepted s) (w : Bytes s) (r : Found) (e : r ≡ first_of (sought s function address)) (z : r.number ≡ 0) (one : r.sharing ≡ 1) where
  found : One r (λ x. refuse 0 0) (sought s function address)
  found = one_found r (λ x. refuse 0 0) (sought s function address) e z one

  pub found-stands : RecordInside s r.first
  found-stands = rw found.first_is (stands s function address k w found.entry found.alone)

  -- its function is one of the section's
  pub found-function : (constants_at s ≤ length s) × (r.function < num_functions s)
  found-function = (functions_inside s k, rw found.function_is (owner-number s function address k w found.entry found.alone))
