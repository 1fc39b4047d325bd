-- The walk over an accepted section that looks for the first breach of the profile.
use Prim.Native.Nat.{ℕ, ◌+◌, ◌-◌, ◌≤◌, ◌<◌}
use mathlib.Core.Path.{◌≡◌, refl, sym, ap, ◌∙◌}
use mathlib.Core.Bool.{Bool, true, false}
use mathlib.Core.Option.{none, some}
use mathlib.Core.List.{List}
use native.Mathlib.Omega.{arith}
use native.Mathlib.Numerals.{add-one}
use lib.ListN.{length, drop, length-drop}
use Rattle.stackmap.specs.declared.Turn.{Turn}
use Rattle.stackmap.specs.Section.{num_functions, num_constants, num_records, is_old, records_at, record_length, Entry, address, entries}
use Rattle.stackmap.specs.Walk.{entry_at, ahead, first_turn}
use Rattle.stackmap.specs.Check.{Accepted}
use Rattle.stackmap.proofs.Turns.{Walking}
use Rattle.stackmap.proofs.Within.{BeforeRecords}
use Rattle.stackmap.proofs.OneWalk.{fold, Folding, fold_start, fold_on, fold_end}
use Rattle.relocate.specs.Code.{record_of, pool_of, RecordInside}
use Rattle.index_rows.proofs.Walk.{tabled, next-valid, next-whole}
use Rattle.controller.specs.Profile.{keeps, first_breach, at_breach}
use Rattle.controller.specs.Kept.{whole, broken, looked, breach_of, before_of}
use Rattle.controller.proofs.Breaches.{fold_broken, fold_breach}

-- the walk stands at the record `number`, and none before it has a breach; `last` is the address of the one before
pub record Looking (s : List ℕ) (next left remaining number p last : ℕ) : Type 0 where
  pub folding : Folding (looked (pool_of s)) s (num_constants s) (whole none) next left remaining number p (whole (before_of number last))

pub look-start : {s : List ℕ} {at count : ℕ} {t : Turn} → BeforeRecords s (records_at s) → t ≡ first_turn (is_old s) s → at ≡ records_at s → count ≡ num_records s
    → Looking s t.next t.left count 0 at 0
look-start {s} w u e n = record { folding = fold_start (looked (pool_of s)) (whole none) w.walkable u e (rw e w.inside) n }

module _ (s : List ℕ) (k : Accepted s) where
  -- no record has one
  pub look-end : {next left remaining number p last : ℕ} → Looking s next left remaining number p last → remaining ≡ 0
      → at_breach (length s) none ≡ at_breach (length s) (first_breach (pool_of s) none (entries s))
  look-end f z =
      ap (at_breach (length s)) (ap breach_of (sym (fold_end (looked (pool_of s)) f.folding z)) ∙ fold_breach (pool_of s) (entries s) none)

  module _ {next left remaining p : ℕ} (w : Walking s (num_constants s) (records_at s) next left remaining p)
      (next' left' : ℕ) (e : ahead s next' left' ≡ ahead s next left) (l : 0 < left') where
    -- the next record stands there
    pub next-stands : RecordInside s p
    next-stands =
        let h = next-whole s k w next' left' e l in
        record { tables = (tabled s k).inside; inside = omega (arith, length-drop p s, w.inside) }

  module _ {next left remaining number p last : ℕ} (f : Looking s next left remaining number p last)
      (next' left' : ℕ) (e : ahead s next' left' ≡ ahead s next left) (l : 0 < left')
      (b : 0 < next') (m : is_old s ≡ false → next' ≤ num_functions s) (r : 0 < remaining) (a : ℕ) (d : a ≡ address (entry_at s 0 (next' - 1) p))
      (t : Bool) (h : (x : Entry) → x.number ≡ number → address x ≡ a → x.body ≡ record_of s p → t ≡ keeps (pool_of s) (before_of number last) x) where
    here : Entry
    here = entry_at s number (next' - 1) p

    told : t ≡ keeps (pool_of s) (before_of number last) here
    unfolding here address
    told = h here refl (sym d) refl

    passed : Folding (looked (pool_of s)) s (num_constants s) (whole none) next' (left' - 1) (remaining - 1) (number + 1) (p + record_length (is_old s) (drop p s)) (looked (pool_of s) here (whole (before_of number last)))
    unfolding here
    passed = fold_on (looked (pool_of s)) next' left' f.folding e l b m r (next-valid s k f.folding.walking next' left' e l)

    same_address : address here ≡ a
    unfolding here address
    same_address = sym d

    -- it keeps the profile
    pub look_on : t ≡ true → {size : ℕ} → size ≡ record_length (is_old s) (drop p s) → Looking s next' (left' - 1) (remaining - 1) (number + 1) (p + size) a
    look_on g z = record { folding = rw (z, ← kept) passed }
      where
        kept : looked (pool_of s) here (whole (before_of number last)) ≡ whole (before_of (number + 1) a)
        kept = unfold looked in rw (sym told ∙ g, same_address, add-one)

    -- it has a breach
    pub look_hit : t ≡ false → at_breach (length s) (some number) ≡ at_breach (length s) (first_breach (pool_of s) none (entries s))
    unfolding looked here
    look_hit g =
        let n = sym told ∙ g in
        let x : looked (pool_of s) here (whole (before_of number last)) ≡ broken number = rw n in
        let y : fold (looked (pool_of s)) (entries s) (whole none) ≡ broken number = passed.kept ∙ rw (x, fold_broken (pool_of s)) in
        ap (at_breach (length s)) (ap breach_of (sym y) ∙ fold_breach (pool_of s) (entries s) none)
