-- What the walk keeps is what the records add.
use Prim.Native.Nat.{ℕ, ◌+◌, ◌≤◌}
use mathlib.Core.Path.{◌≡◌, refl, sym, ◌∙◌}
use mathlib.Core.List.{List, [], ◌∷◌}
use native.Mathlib.Omega.{arith}
use lib.ListN.{length, drop, length-drop}
use Rattle.stackmap.specs.Verdict.{Valid}
use Rattle.stackmap.specs.Verdict.{shift}
use Rattle.stackmap.specs.Section.{is_old, records_at, Entry}
use Rattle.stackmap.specs.Record.{record_check}
use Rattle.stackmap.proofs.Verdicts.{chain_first, shift-valid}
use Rattle.stackmap.proofs.Within.{is-inside}
use Rattle.stackmap.proofs.OneWalk.{fold}
use Rattle.relocate.specs.Code.{RecordInside}
use Rattle.report.specs.declared.Totals.{Totals}
use Rattle.report.specs.Totals.{plus, total, of_entry}
use Rattle.report.proofs.Plus.{plus-end, plus_assoc, kinds-most, kinds-below, totals_are}
use Rattle.report_records.specs.declared.Counts.{Counts}
use Rattle.report_records.specs.Counts.{as_totals, grown, Most, with_entry}

-- the fold of all entries
pub fold_total : (es : List Entry) (h : Totals) → fold with_entry es h ≡ plus h (total of_entry es)
unfolding total with_entry
fold_total [] h = sym (plus-end h)
fold_total (e ∷ es) h = fold_total es (plus h (of_entry e)) ∙ plus_assoc h (of_entry e) (total of_entry es)

-- two counts, added
pub grown_totals : (a b : Counts) → as_totals (grown a b) ≡ plus (as_totals a) (as_totals b)
unfolding as_totals grown plus
grown_totals a b = totals_are _ _ (omega arith) (omega arith) (omega arith) refl refl refl refl (omega arith) (omega arith)

pub grown-most : (m n : ℕ) (a b : Counts) → Most m a → Most n b → Most (m + n) (grown a b)
unfolding grown
grown-most m n a b h k =
    record {
      records = omega (arith, h.records, k.records);
      statepoints = omega (arith, h.statepoints, k.statepoints);
      pairs = omega (arith, h.pairs, k.pairs);
      kinds = kinds-most m n _ _ h.kinds k.kinds;
    }

pub most-below : (m n : ℕ) (c : Counts) → m ≤ n → Most m c → Most n c
most-below m n c l h =
    record { records = omega (arith, h.records); statepoints = omega (arith, h.statepoints); pairs = omega (arith, h.pairs); kinds = kinds-below m n _ l h.kinds }

-- a valid record stands there
pub stands : (s : List ℕ) (c a p q : ℕ) → records_at s ≤ length s → p ≤ length s → shift p (record_check (is_old s) (drop p s) c a) ≡ Valid q → RecordInside s p
unfolding record_check
stands s c a p q t i v =
    let x = shift-valid _ _ _ v in
    let h = is-inside (is_old s) (drop p s) _ (chain_first _ _ _ x.1).1 in
    record { tables = t; inside = omega (arith, length-drop p s) }
