-- The stages of an outline, each by the tests that lead to it.
use Prim.Native.Nat.{ℕ, ◌+◌, ◌-◌, ◌^◌, ◌≤◌, ◌<◌}
use mathlib.Core.Path.{◌≡◌, refl, ◌∙◌}
use mathlib.Core.Bool.{Bool, true, false, not, ◌||◌}
use mathlib.Core.List.{List, flatten}
use native.Mathlib.Omega.{arith}
use borrow.Author.Tests.{leb-true, le-leb, lt-leb}
use lib.Dec.{leb}
use lib.ListN.{length}
use Rattle.wire.specs.Word.{Bytes}
use Rattle.stackmap.specs.Section.{Record, Entry, is_old}
use Rattle.stackmap.specs.Walk.{function_number}
use Rattle.stackmap.specs.Check.{Accepted}
use Rattle.questions.specs.declared.Found.{Found}
use Rattle.questions.specs.Questions.{first_of, sought}
use Rattle.stackmap.proofs.Tests.{and_true}
use Rattle.moves.specs.Search.{lowest}
use Rattle.moves.specs.Plan.{Plan, refuse}
use Rattle.relocate.specs.declared.Cursor.{Cursor}
use Rattle.relocate.specs.Limits.{image_most}
use Rattle.relocate.specs.Restore.{Restore}
use Rattle.relocate.specs.Statepoint.{is_statepoint, pairs, right_form}
use Rattle.relocate.specs.Plan.{only, stack_size, image_right, extent_right, plan_pairs, plan_record}
use Rattle.relocate.specs.Code.{record_of, pool_of, plan_entry, plan_slots, pair_number, pointers_by}
use Rattle.relocate_plan.specs.declared.Outline.{Outline}
use Rattle.relocate_plan.specs.Outlined.{refused_outline, OutlinesPairs, Outlines}
use Rattle.relocate_plan.proofs.Following.{every-refused, every-passed}
use Rattle.relocate_plan.proofs.Asking.{one_found, body_is, size_is}

-- A refusal, and an outline by its pairs.

module _ (R : Restore) (f : Cursor) (p : Plan) (r : Outline) where
  pub refuses_pairs : (size n i : ℕ) → 0 < n → r ≡ refused_outline n i → p ≡ refuse n i → OutlinesPairs R f size p r
  refuses_pairs size n i z e q =
      rw e (record { refused = λ h. q; formed = λ h. absurd (omega arith); sized = λ h. absurd (omega arith); goes_on = λ h. absurd (omega arith) })

  pub refuses : (long n i : ℕ) → 0 < n → r ≡ refused_outline n i → p ≡ refuse n i → Outlines R long f p r
  refuses long n i z e q = rw e (record { refused = λ h. q; stands = λ h. absurd (omega arith); goes_on = λ h. absurd (omega arith) })

  pub outlined : (long size : ℕ) → extent_right R.first long f.sp size ≡ true → size ≤ image_most → OutlinesPairs R f size p r → Outlines R long f p r
  outlined long size x m o =
      record {
        refused = o.refused;
        stands = λ z. record { formed = o.formed z; extent = rw (o.sized z) x; small = rw (o.sized z) m };
        goes_on = o.goes_on;
      }

-- 13

pub image-most : (first n : ℕ) → image_right first n ≡ true → n ≤ image_most
unfolding image_right
image-most first n h = leb-true _ _ (and_true (leb n 1048576) (leb (first + n) (2 ^ 64 - 1)) h).0

-- 18, 17 over the pointers

module _ (R : Restore) (f : Cursor) (size : ℕ) (r : Record) (count : ℕ) (c : count ≡ length (pairs r)) (old : Bool) (is : old ≡ is_old R.section) where
  abbrev pool : List ℕ
  pool = pool_of R.section

  module _ (few : old ≡ true → count ≤ R.settings.most) (wrong : ℕ) (w : wrong ≡ lowest (λ p. not (right_form f.machine old pool (pair_number r p))) count) where
    few-pairs : (not old || leb (length (pairs r)) R.settings.most) ≡ true
    few-pairs = go old refl
      where
        go : (t : Bool) → old ≡ t → (not t || leb (length (pairs r)) R.settings.most) ≡ true
        go true q = le-leb _ _ (rw c at (few q))
        go false q = refl

    pub pairs_18 : wrong < count → plan_pairs R f size (pairs r) ≡ refuse 18 wrong
    unfolding plan_pairs
    pairs_18 h = rw (← is, few-pairs) (every-refused (right_form f.machine old pool) 18 r _ count wrong c w h)

    module _ (right : count ≤ wrong) (pointers : ℕ) (e : pointers ≡ length (flatten (pointers_by old pool f r))) where
      pub pairs_17 : R.settings.most < pointers → plan_pairs R f size (pairs r) ≡ refuse 17 0
      unfolding plan_pairs
      pairs_17 h = rw (← is, few-pairs, ← e, lt-leb pointers R.settings.most h) (every-passed (right_form f.machine old pool) 18 r _ count wrong c w right)

      pub pairs_on : pointers ≤ R.settings.most → plan_pairs R f size (pairs r) ≡ plan_slots R f size (pairs r)
      unfolding plan_pairs plan_slots
      pairs_on h = rw (← is, few-pairs, ← e, le-leb pointers R.settings.most h) (every-passed (right_form f.machine old pool) 18 r _ count wrong c w right)

-- in version 1 there are few pairs
pub few-old : (old : Bool) (n most : ℕ) → (not old || leb n most) ≡ true → old ≡ true → n ≤ most
few-old old n most h e = leb-true n most (rw e at h)

-- 12, 16, 17

module _ (R : Restore) (n : ℕ) (f : Cursor) (size : ℕ) (r : Record) where
  pub record_12 : is_statepoint r ≡ false → plan_record R n f size r ≡ refuse 12 0
  unfolding plan_record
  record_12 h = rw h

  module _ (s : is_statepoint r ≡ true) where
    pub record_16 : extent_right R.first n f.sp size ≡ false → plan_record R n f size r ≡ refuse 16 0
    unfolding plan_record
    record_16 h = rw (s, h)

    module _ (e : extent_right R.first n f.sp size ≡ true) (count : ℕ) (c : count ≡ length (pairs r)) where
      pub record_17 : (not (is_old R.section) || leb count R.settings.most) ≡ false → plan_record R n f size r ≡ refuse 17 0
      unfolding plan_record plan_pairs
      record_17 h = rw (s, e, ← c, h)

      pub record_on : plan_record R n f size r ≡ plan_pairs R f size (pairs r)
      unfolding plan_record
      record_on = rw (s, e)

-- 10, 15

module _ (R : Restore) (n : ℕ) (f : Cursor) where
  abbrev s : List ℕ
  s = R.section

  same_record : (size function at : ℕ) (x : Entry) → size ≡ (function_number s function).stack_size → function ≡ x.owner.number → at ≡ x.first
      → stack_size x ≡ (function_number s x.owner.number).stack_size → x.body ≡ record_of s x.first
      → plan_entry R n f x ≡ plan_record R n f size (record_of s at)
  same_record size function at x q g h i b = rw (q, g, h, i, b)

  pub entry-plan : (r : Found) (size : ℕ) → Accepted s → Bytes s
      → r ≡ first_of (sought s f.function f.address) → r.number ≡ 0 → r.sharing ≡ 1 → size ≡ (function_number s r.function).stack_size
      → only (sought s f.function f.address) (plan_entry R n f) ≡ plan_record R n f size (record_of s r.first)
  entry-plan r size k w e z one q =
      let o = one_found r (plan_entry R n f) (sought s f.function f.address) e z one in
      o.goes_on
      ∙ same_record size r.function r.first o.entry q o.function_is o.first_is
      (size_is s f.function f.address k w o.entry o.alone) (body_is s f.function f.address k w o.entry o.alone)
