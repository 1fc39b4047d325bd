-- A walk that keeps the last address gives the first breach.
use Prim.Native.Nat.{ℕ}
use mathlib.Core.Path.{◌≡◌, refl, ap}
use mathlib.Core.Bool.{Bool, true, false, cond}
use mathlib.Core.Option.{Option, some}
use mathlib.Core.List.{List, [], ◌∷◌}
use Rattle.stackmap.specs.Section.{Entry, address}
use Rattle.stackmap.proofs.OneWalk.{fold}
use Rattle.controller.specs.Profile.{keeps, first_breach}
use Rattle.controller.specs.Kept.{whole, broken, looked, breach_of}

module _ (pool : List ℕ) where
  -- a breach stays
  pub fold_broken : (es : List Entry) (k : ℕ) → fold (looked pool) es (broken k) ≡ broken k
  unfolding looked
  fold_broken [] k = refl
  fold_broken (e ∷ es) k = fold_broken es k

  pub fold_breach : (es : List Entry) (before : Option ℕ) → breach_of (fold (looked pool) es (whole before)) ≡ first_breach pool before es
  unfolding looked first_breach
  fold_breach [] before = refl
  fold_breach (e ∷ es) before = go (keeps pool before e) (fold_breach es (some (address e)))
    where
      go : (b : Bool) → breach_of (fold (looked pool) es (whole (some (address e)))) ≡ first_breach pool (some (address e)) es
          → breach_of (fold (looked pool) es (cond b (whole (some (address e))) (broken e.number)))
          ≡ cond b (first_breach pool (some (address e)) es) (some e.number)
      go true h = h
      go false h = ap breach_of (fold_broken es e.number)
