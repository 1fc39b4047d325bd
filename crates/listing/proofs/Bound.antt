-- The definitions of the listing count down from a bound. The listing's length is enough of one, at every place.
use Prim.Native.Nat.{ℕ, zero, suc, ◌+◌, ◌-◌, ◌≤◌}
use mathlib.Core.Path.{◌≡◌, refl, sym, ◌∙◌, ap}
use mathlib.Core.List.{List, ◌∷◌}
use mathlib.Core.Bool.{Bool, true, false}
use native.Mathlib.Omega.{arith}
use lib.ListN.{length}
use Rattle.stackmap.specs.Section.{Record}
use Rattle.listing.specs.Layout.{record_kind, record_item_size}
use Rattle.listing.specs.Listing.{stands, run, listed_record, record_stop, listed_records, records_stop}
use Rattle.listing.specs.Bound.{BoundSuffices}
use Rattle.listing.proofs.Items.{run_yes, run_no, is_item, no_room, records_yes, records_no}

-- A run.

run_enough : (k n m m' : ℕ) (l : List ℕ) (at : ℕ) → 1 ≤ n → length l ≤ at + m → length l ≤ at + m' → run k n m l at ≡ run k n m' l at
run_enough k n zero m' l at o h h' =
    let e = no_room k n l at (omega arith) in
    run_no k n zero l at e ∙ sym (run_no k n m' l at e)
run_enough k n (suc m) zero l at o h h' =
    let e = no_room k n l at (omega arith) in
    run_no k n (suc m) l at e ∙ sym (run_no k n zero l at e)
run_enough k n (suc m) (suc m') l at o h h' = go (run_enough k n m m' l (at + n) o (omega arith) (omega arith)) (stands k n l at) refl
  where
    go : run k n m l (at + n) ≡ run k n m' l (at + n) → (b : Bool) → stands k n l at ≡ b → run k n (suc m) l at ≡ run k n (suc m') l at
    go ih true e = run_yes k n m l at e ∙ ap suc ih ∙ sym (run_yes k n m' l at e)
    go ih false e = run_no k n (suc m) l at e ∙ sym (run_no k n (suc m') l at e)

-- an item that stands is one more
pub run_on : (k n : ℕ) (l : List ℕ) (at : ℕ) → 1 ≤ n → stands k n l at ≡ true → run k n (length l) l at ≡ suc (run k n (length l) l (at + n))
run_on k n l at o e =
    let i = (is_item k n l at e).0 in
    let b : length l ≡ suc (length l - 1) = omega arith in
    ap (λ (m : ℕ). run k n m l at) b ∙ run_yes k n (length l - 1) l at e
    ∙ ap suc (run_enough k n (length l - 1) (length l) l (at + n) o (omega arith) (omega arith))

-- Records.

module _ (l : List ℕ) where
  -- a record item and what follows it take bytes
  stop_after : (at : ℕ) → at + record_item_size ≤ record_stop l at
  unfolding record_stop
  stop_after at = omega arith

  abbrev Same : ℕ → ℕ → ℕ → Type 0
  Same m m' at = (listed_records l m at ≡ listed_records l m' at) × (records_stop l m at ≡ records_stop l m' at)

  no_records : (m m' at : ℕ) → stands record_kind record_item_size l at ≡ false → Same m m' at
  no_records m m' at e =
      let a = records_no l m at e in
      let b = records_no l m' at e in
      (a.0 ∙ sym b.0, a.1 ∙ sym b.1)

  records_enough : (m m' at : ℕ) → length l ≤ at + m → length l ≤ at + m' → Same m m' at
  records_enough zero m' at h h' = no_records zero m' at (no_room _ _ l at (omega arith))
  records_enough (suc m) zero at h h' = no_records (suc m) zero at (no_room _ _ l at (omega arith))
  records_enough (suc m) (suc m') at h h' =
      let z = stop_after at in
      go (records_enough m m' (record_stop l at) (omega arith) (omega arith)) (stands record_kind record_item_size l at) refl
    where
      go : Same m m' (record_stop l at) → (b : Bool) → stands record_kind record_item_size l at ≡ b → Same (suc m) (suc m') at
      go ih true e =
          let a = records_yes l m at e in
          let b = records_yes l m' at e in
          (a.0 ∙ ap (λ (rs : List Record). listed_record l at ∷ rs) ih.0 ∙ sym b.0, a.1 ∙ ih.1 ∙ sym b.1)
      go ih false e = no_records (suc m) (suc m') at e

  -- a record item that stands here is the first of the records
  pub records_on : (at : ℕ) → stands record_kind record_item_size l at ≡ true
      → (listed_records l (length l) at ≡ listed_record l at ∷ listed_records l (length l) (record_stop l at))
      × (records_stop l (length l) at ≡ records_stop l (length l) (record_stop l at))
  records_on at e =
      let i = (is_item record_kind record_item_size l at e).0 in
      let z = stop_after at in
      let b : length l ≡ suc (length l - 1) = omega arith in
      let y = records_yes l (length l - 1) at e in
      let s = records_enough (length l - 1) (length l) (record_stop l at) (omega arith) (omega arith) in (
        ap (λ (m : ℕ). listed_records l m at) b ∙ y.0 ∙ ap (λ (rs : List Record). listed_record l at ∷ rs) s.0,
        ap (λ (m : ℕ). records_stop l m at) b ∙ y.1 ∙ s.1,
      )

pub bound_suffices : BoundSuffices
bound_suffices =
    record {
      runs = λ k n m l at o h. run_enough k n m (length l) l at (omega arith) (omega arith) (omega arith);
      records = λ m l at h. (records_enough l m (length l) at (omega arith) (omega arith)).0;
      stops = λ m l at h. (records_enough l m (length l) at (omega arith) (omega arith)).1;
    }
