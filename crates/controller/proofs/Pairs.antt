-- The profile's test of all pairs, and the base's refusal at the lowest pair that fails, are one.
use Prim.Native.Nat.{ℕ, suc}
use mathlib.Core.Path.{◌≡◌, refl, sym, ◌∙◌}
use mathlib.Core.Bool.{Bool, true, false}
use mathlib.Core.List.{List, [], ◌∷◌}
use Rattle.stackmap.proofs.Tests.{and_true}
use Rattle.moves.specs.Plan.{Plan, refuse, window}
use Rattle.relocate.specs.Statepoint.{Pair}
use Rattle.relocate.specs.Plan.{every}
use Rattle.relocate.proofs.Planned.{every_yes, every_no}
use Rattle.controller.specs.Profile.{all_of}

module _ (good : Pair → Bool) (n : ℕ) where
  -- where the test holds of all, none is refused
  pub every-all : (i : ℕ) (ps : List Pair) (k : Plan) → all_of good ps ≡ true → every good n i ps k ≡ k
  every-all i [] k h = unfold every in refl
  every-all i (p ∷ ps) k h =
      let a = and_true (good p) (all_of good ps) h in
      every_yes good n i p ps k a.0 ∙ every-all (suc i) ps k a.1

  is_window_lem : Plan → Bool
  is_window_lem (refuse m p) = false
  is_window_lem (window off size pss) = true

  any : Plan
  any = window 0 0 []

  all-every : (i : ℕ) (ps : List Pair) → is_window_lem (every good n i ps any) ≡ all_of good ps
  unfolding is_window_lem any
  all-every i [] = unfold every in refl
  all-every i (p ∷ ps) = go (good p) refl (all-every (suc i) ps)
    where
      go : (b : Bool) → good p ≡ b → is_window_lem (every good n (suc i) ps any) ≡ all_of good ps → is_window_lem (every good n i (p ∷ ps) any) ≡ all_of good (p ∷ ps)
      go true e h = rw (every_yes good n i p ps any e, e) h
      go false e h = rw (every_no good n i p ps any e, e)

  -- and where some pair is refused, whatever comes after, it does not hold of all
  pub some-refused : (ps : List Pair) (p : ℕ) → ((k : Plan) → every good n 0 ps k ≡ refuse n p) → all_of good ps ≡ false
  unfolding is_window_lem
  some-refused ps p h = sym (all-every 0 ps) ∙ rw (h any)

  pub none-refused : (ps : List Pair) → ((k : Plan) → every good n 0 ps k ≡ k) → all_of good ps ≡ true
  unfolding is_window_lem any
  none-refused ps h = sym (all-every 0 ps) ∙ rw (h any)
