-- The records, put one by one.
use Prim.Native.Nat.{ℕ, ◌+◌, ◌-◌, ◌≤◌, ◌<◌}
use mathlib.Core.Path.{◌≡◌, refl, sym, ◌∙◌, ap}
use mathlib.Core.List.{List, [], ◌∷◌}
use mathlib.Core.Bool.{Bool, true}
use native.Mathlib.Omega.{arith}
use borrow.Author.Tests.{leb-true}
use lib.ListN.{length}
use lib.Seq.{sets, length-sets}
use Rattle.stackmap.specs.Fields.{bytes_of, size, all}
use Rattle.stackmap.specs.Section.{record_fields}
use Rattle.stackmap.proofs.Tests.{and_true}
use Rattle.stackmap.proofs.Verdicts.{must-held, must-rest}
use Rattle.listing.specs.Layout.{record_kind, record_item_size, items_most}
use Rattle.listing.specs.Listing.{stands, listed_record}
use Rattle.parser_items.specs.Count.{RecordCounted}
use Rattle.parser_items.specs.Survey.{record_size, records_from}
use Rattle.parser_items.specs.Draft.{Ready}
use Rattle.parser_items.proofs.Records.{shape_size, records-here, check-here, sized-here, some_record}
use Rattle.builder_items.proofs.Puts.{then_put}

-- `left` records from `at` on are still to be put, to q
pub record PuttingRecords (l : List ℕ) (old : Bool) (from : ℕ) (out₀ : List ℕ) (to : ℕ) (out : List ℕ) (at q left : ℕ) : Type 0 where
  pub ready : Ready l at left
  pub room : q + size (all (record_fields old) (records_from l at)) ≤ length out
  pub long : length out ≡ length out₀
  pub same : sets out₀ to (bytes_of (all (record_fields old) (records_from l from))) ≡ sets out q (bytes_of (all (record_fields old) (records_from l at)))

module _ {l : List ℕ} {at n : ℕ} (r : Ready l at n) (h : 0 < n) where
  pub ready-stands : stands record_kind record_item_size l at ≡ true
  ready-stands = let c = r.counted in some_record l at (omega arith)

  module _ {a b stop : ℕ} (s : RecordCounted l at a b stop) where
    -- neither list is too long
    pub ready-small : (a ≤ items_most) × (b ≤ items_most)
    ready-small =
        let k = and_true _ _ (must-held _ _ _ _ _ (sym (check-here s ready-stands) ∙ r.small.1)) in
        (leb-true _ _ k.0, leb-true _ _ k.1)

    pub ready_on : Ready l stop (n - 1)
    ready_on =
        let c = r.counted in
        let k = ap length (records-here s ready-stands) in
        record {
          inside = s.inside;
          counted = omega arith;
          small = (r.small.0, must-rest _ _ _ _ _ (sym (check-here s ready-stands) ∙ r.small.1));
        }

module _ {l : List ℕ} {old : Bool} {from : ℕ} {out₀ : List ℕ} {to : ℕ} where
  pub records-start : {n : ℕ} → Ready l from n → to + size (all (record_fields old) (records_from l from)) ≤ length out₀ → PuttingRecords l old from out₀ to out₀ from to n
  records-start r h = record { ready = r; room = h; long = refl; same = refl }

  module _ {out : List ℕ} {at q left : ℕ} (w : PuttingRecords l old from out₀ to out at q left) (h : 0 < left) {a b stop : ℕ} (s : RecordCounted l at a b stop) where
    pub record_room : q + record_size old a b ≤ length out
    record_room =
        let r = w.room in
        let z = sized-here s (ready-stands w.ready h) old in
        omega arith

    pub records_on : {left' : ℕ} → left' ≡ left - 1 → (out' : List ℕ) → out' ≡ sets out q (bytes_of (record_fields old (listed_record l at)))
        → PuttingRecords l old from out₀ to out' stop (q + record_size old a b) left'
    records_on f out' e =
        let y = ready-stands w.ready h in
        let r = w.room in
        let g = w.long in
        let z = sized-here s y old in
        let k : length out' ≡ length out = rw (e, length-sets) in
        record {
          ready = rw f (ready_on w.ready h s);
          room = omega arith;
          long = omega arith;
          same = w.same ∙ rw (records-here s y, e)
              (unfold all in sym (then_put (record_fields old (listed_record l at)) (all (record_fields old) (records_from l stop)) out q (q + record_size old a b) (rw (shape_size s old))));
        }

  pub records-end : {out : List ℕ} {at q left : ℕ} → PuttingRecords l old from out₀ to out at q left → left ≡ 0
      → out ≡ sets out₀ to (bytes_of (all (record_fields old) (records_from l from)))
  records-end {out} {at} {q} w z = sym (w.same ∙ none (records_from l at) (w.ready.counted ∙ z))
    where
      none : (rs : List _) → length rs ≡ 0 → sets out q (bytes_of (all (record_fields old) rs)) ≡ out
      none [] e = unfold all bytes_of in refl
      none (r ∷ rs) e = absurd (omega arith)
