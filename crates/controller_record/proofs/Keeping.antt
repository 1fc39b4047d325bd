-- What the code's tests of one record tell of the profile.
use Prim.Native.Nat.{ℕ, zero, suc, ◌≤◌, ◌<◌}
use mathlib.Core.Path.{◌≡◌, refl, sym, ◌∙◌}
use mathlib.Core.Bool.{Bool, true, false, not, ◌&&◌}
use mathlib.Core.Option.{Option}
use mathlib.Core.List.{List}
use borrow.Author.Tests.{lt-ltb, le-ltb}
use lib.Dec.{leb, ltb}
use lib.ListN.{length}
use Rattle.stackmap.specs.Section.{Record, Entry, address}
use Rattle.moves.specs.Search.{lowest}
use Rattle.relocate.specs.declared.Machine.TheVariants.{Amd64}
use Rattle.relocate.specs.Statepoint.{is_statepoint, pairs, right_form}
use Rattle.relocate.specs.Code.{pair_number, count_of, total_of}
use Rattle.relocate_pairs.proofs.Counting.{pointers_length}
use Rattle.relocate_plan.proofs.Following.{every-refused, every-passed}
use Rattle.controller.specs.Profile.{records_most, pointers_most, passes18, some_frame, pointer_count, above, keeps}
use Rattle.controller.specs.Kept.{before_of}
use Rattle.controller.proofs.Pairs.{some-refused, none-refused}

-- there is a record before
pub later_above : (number last a : ℕ) → (number ≡ 0 → ⊥) → ltb last a ≡ above (before_of number last) a
later_above zero last a h = absurd (h refl)
later_above (suc k) last a h = refl

-- the lowest pair of wrong form
module _ (pool : List ℕ) (r : Record) (count wrong : ℕ) (c : count ≡ length (pairs r))
    (w : wrong ≡ lowest (λ p. not (right_form Amd64 false pool (pair_number r p))) count) where
  pub pairs_wrong : wrong < count → passes18 pool r ≡ false
  unfolding passes18
  pairs_wrong h = some-refused (right_form Amd64 false pool) 18 (pairs r) wrong (λ k. every-refused (right_form Amd64 false pool) 18 r k count wrong c w h)

  pub pairs-right : count ≤ wrong → passes18 pool r ≡ true
  unfolding passes18
  pairs-right h = none-refused (right_form Amd64 false pool) 18 (pairs r) (λ k. every-passed (right_form Amd64 false pool) 18 r k count wrong c w h)

-- the pointers as they are counted
pub pointers_are : (pool : List ℕ) (r : Record) (n : ℕ) → n ≡ total_of (count_of false pool) (pairs r) → n ≡ pointer_count pool r
unfolding pointer_count
pointers_are pool r n h = h ∙ sym (pointers_length false pool some_frame r)

-- the record's tests, in the code's order
module _ (pool : List ℕ) (before : Option ℕ) (e : Entry) (number a : ℕ) (r : Record) (n : e.number ≡ number) (d : address e ≡ a) (b : e.body ≡ r) where
  pub keeps_late : records_most ≤ number → false ≡ keeps pool before e
  unfolding keeps
  keeps_late h = rw (n, le-ltb number records_most h)

  module _ (few : number < records_most) where
    pub keeps_falls : above before a ≡ false → false ≡ keeps pool before e
    unfolding keeps address is_statepoint
    keeps_falls h = rw (n, lt-ltb number records_most few, d, h)

    pub keeps-body : above before a ≡ true → (t : Bool) → t ≡ (is_statepoint r && (passes18 pool r && leb (pointer_count pool r) pointers_most)) → t ≡ keeps pool before e
    unfolding keeps address is_statepoint
    keeps-body h t g = g ∙ rw (n, lt-ltb number records_most few, d, h, b)
