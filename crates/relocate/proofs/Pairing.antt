-- Statepoints and the pairs of their locations.
use Prim.Native.Nat.{ℕ, zero, suc, ◌+◌, ◌*◌, ◌-◌, ◌/◌, ◌%◌, ◌^◌, ◌≤◌, ◌<◌}
use mathlib.Core.Path.{◌≡◌, refl, ◌∙◌}
use mathlib.Core.Bool.{true, false, ◌&&◌}
use mathlib.Core.List.{List, [], ◌∷◌}
use native.Mathlib.Omega.{arith}
use native.Mathlib.Nat.{not-suc-le-zero}
use borrow.Author.Tests.{eqb-true, leb-true, ltb-true, le-ltb}
use lib.Dec.{eqb, leb, ltb}
use lib.ListN.{length, get_or, drop, length-drop}
use lib.Seq.{get_or-drop}
use Rattle.stackmap.specs.Layout.{negative_from}
use Rattle.stackmap.specs.Section.{Location, Record, num_locations}
use Rattle.stackmap.proofs.Tests.{and_true}
use Rattle.relocate.specs.Statepoint.{no_location, deopt_count, pairs_at, constant_head, paired_rest, is_statepoint, Pair, pair_up, pairs}
use Rattle.relocate.specs.Code.{record_of, RecordInside, pair_number, Paired}
use Rattle.relocate.proofs.Records.{count-locations}

-- what a statepoint tells
pub record Tells (r : Record) : Type 0 where
  pub head : 3 ≤ length r.locations
  pub signed : deopt_count r < negative_from
  pub room : pairs_at r ≤ length r.locations
  pub even : (length r.locations - pairs_at r) % 2 ≡ 0

pub statepoint_tells : (r : Record) → is_statepoint r ≡ true → Tells r
unfolding is_statepoint paired_rest
statepoint_tells r h =
    let b₃ = eqb (length r.live_outs) 0 in
    let b₂ = eqb ((length r.locations - pairs_at r) % 2) 0 in
    let b₁ = leb (pairs_at r) (length r.locations) in
    let h₀ = and_true (leb 3 (length r.locations)) (constant_head r && paired_rest r) h in
    let h₁ = and_true (constant_head r) (paired_rest r) h₀.1 in
    let h₂ = and_true (ltb (deopt_count r) negative_from) (b₁ && (b₂ && b₃)) h₁.1 in
    let h₃ = and_true b₁ (b₂ && b₃) h₂.1 in
    record { head = leb-true _ _ h₀.0; signed = ltb-true _ _ h₂.0; room = leb-true _ _ h₃.0; even = eqb-true _ _ (and_true b₂ b₃ h₃.1).0 }

-- a deopt count that is negative
pub rest_negative : (r : Record) (deopt : ℕ) → deopt ≡ deopt_count r → 2 ^ 31 ≤ deopt → false ≡ paired_rest r
unfolding paired_rest
rest_negative r deopt d h = rw (← d, le-ltb deopt (2 ^ 31) h)

-- pairs by their numbers

abbrev pub no_pair : Pair
no_pair = record { base = no_location; derived = no_location }

length-pair_up : (ls : List Location) → length (pair_up ls) ≡ length ls / 2
unfolding pair_up
length-pair_up [] = omega arith
length-pair_up (b ∷ []) = omega arith
length-pair_up (b ∷ d ∷ ls) = omega (arith, length-pair_up ls)

pair_up-at : (ls : List Location) (p : ℕ) → p < length (pair_up ls)
    → get_or (pair_up ls) p no_pair ≡ record { base = get_or ls (2 * p) no_location; derived = get_or ls (2 * p + 1) no_location }
unfolding pair_up
pair_up-at [] p h = absurd (not-suc-le-zero h)
pair_up-at (b ∷ []) p h = absurd (not-suc-le-zero h)
pair_up-at (b ∷ d ∷ ls) zero h = refl
pair_up-at (b ∷ d ∷ ls) (suc p) h =
    let e : 2 * suc p ≡ suc (suc (2 * p)) = omega arith in
    let g : 2 * suc p + 1 ≡ suc (suc (2 * p + 1)) = omega arith in
    rw (g, e) (pair_up-at ls p (omega arith))

pub count-pairs : (r : Record) → length (pairs r) ≡ (length r.locations - pairs_at r) / 2
unfolding pairs
count-pairs r = length-pair_up (drop (pairs_at r) r.locations) ∙ rw length-drop

pub pair-at : (r : Record) (p : ℕ) → p < length (pairs r) → get_or (pairs r) p no_pair ≡ pair_number r p
unfolding pairs
pair-at r p h =
    let e : pairs_at r + (2 * p + 1) ≡ pairs_at r + 2 * p + 1 = omega arith in
    pair_up-at (drop (pairs_at r) r.locations) p h ∙ rw (get_or-drop (pairs_at r) r.locations (2 * p) no_location, get_or-drop (pairs_at r) r.locations (2 * p + 1) no_location, e)

-- what stands there, by the counts in the section
pub paired : (s : List ℕ) (at start count : ℕ) → RecordInside s at → is_statepoint (record_of s at) ≡ true
    → start ≡ pairs_at (record_of s at) → count ≡ (num_locations (drop at s) - start) / 2 → Paired s at start count
paired s at start count h sp e c =
    let t = statepoint_tells (record_of s at) sp in
    let n = count-locations s at in
    let r : pairs_at (record_of s at) ≤ num_locations (drop at s) = rw (← n) t.room in
    record {
      stands = h;
      starts = e;
      counted = c ∙ rw (count-pairs (record_of s at), n, e);
      room = omega arith;
    }
