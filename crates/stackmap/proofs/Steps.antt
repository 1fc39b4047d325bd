-- One turn of each definition that counts down, at a count that is above 0.
use Prim.Native.Nat.{ℕ, zero, suc, ◌+◌, ◌*◌, ◌-◌, ◌/◌, ◌≤◌, ◌<◌}
use mathlib.Core.Path.{◌≡◌, sym}
use mathlib.Core.Bool.{Bool, true, false}
use mathlib.Core.List.{List, ◌∷◌, ◌++◌}
use native.Mathlib.Omega.{arith}
use native.Mathlib.Nat.{mul-suc}
use native.Mathlib.Numerals.{add-one}
use borrow.Author.Tests.{ne_eqb}
use lib.ListN.{length, get_or, replicate}
use lib.Dec.{eqb}
use Rattle.stackmap.specs.Layout.{function_size, location_size}
use Rattle.stackmap.specs.Verdict.{must, chain}
use Rattle.stackmap.specs.Fields.{many}
use Rattle.stackmap.specs.Section.{Function, owners, counted}
use Rattle.stackmap.specs.Record.{zeros, location_check, locations, live_outs}
use Rattle.stackmap.proofs.Tests.{eqb_iff}

back : (n : ℕ) → suc n - 1 ≡ n
back n = omega arith

pub mul_step : (k n : ℕ) → 0 < n → k * n ≡ k + k * (n - 1)
mul_step k zero h = absurd (omega arith)
mul_step k (suc n) h = rw (back, mul-suc) (omega arith)

-- a product of a factor that is at most b
pub times_most : (a b n : ℕ) → a ≤ b → a * n ≤ b * n
times_most a b zero h = omega arith
times_most a b (suc n) h = let i = times_most a b n h in omega arith

-- the sizes that differ between the versions

pub location_least : (old : Bool) → 8 ≤ location_size old
location_least true = omega arith
location_least false = omega arith

pub function-least : (old : Bool) → 16 ≤ function_size old
function-least true = omega arith
function-least false = omega arith

-- whole functions in k bytes
pub functions-most : (old : Bool) (k : ℕ) → function_size old * (k / function_size old) ≤ k
functions-most true k = omega arith
functions-most false k = omega arith

pub zeros_step : (n : ℕ) (s : List ℕ) (at : ℕ) → 0 < n → zeros n s at ≡ must (eqb (get_or s at 0) 0) 3 at (zeros (n - 1) s (at + 1))
unfolding zeros
zeros_step zero s at h = absurd (omega arith)
zeros_step (suc n) s at h = rw back

pub locations_step : (old : Bool) (n : ℕ) (s : List ℕ) (c at : ℕ) → 0 < n
    → locations old n s c at ≡ chain (location_check old s c at) (locations old (n - 1) s c (at + location_size old))
unfolding locations
locations_step old zero s c at h = absurd (omega arith)
locations_step old (suc n) s c at h = rw back

pub live_outs_step : (n : ℕ) (s : List ℕ) (at : ℕ) → 0 < n
    → live_outs n s at ≡ must (eqb (get_or s (at + 2) 0) 0) 3 (at + 2) (live_outs (n - 1) s (at + 4))
unfolding live_outs
live_outs_step zero s at h = absurd (omega arith)
live_outs_step (suc n) s at h = rw back

pub many_step : {A : Type 0} (read : List ℕ → ℕ → A) (step n : ℕ) (s : List ℕ) (at : ℕ) → 0 < n
    → many read step n s at ≡ read s at ∷ many read step (n - 1) s (at + step)
unfolding many
many_step read step zero s at h = absurd (omega arith)
many_step read step (suc n) s at h = rw back

pub replicate_step : {A : Type 0} (n : ℕ) (x : A) (xs : List A) → 0 < n → replicate n x ++ xs ≡ x ∷ (replicate (n - 1) x ++ xs)
replicate_step zero x xs h = absurd (omega arith)
replicate_step (suc n) x xs h = rw back

-- Functions, read one after the other: their record counts, and their records' owners.

module _ (read : List ℕ → ℕ → Function) (step n : ℕ) (s : List ℕ) (at : ℕ) where
  pub counted_step : 0 < n → counted (many read step n s at) ≡ (read s at).count + counted (many read step (n - 1) s (at + step))
  unfolding counted
  counted_step h = rw (many_step read step n s at h)

  -- of all n functions, those from number i on
  pub owners_step : (i : ℕ) → i < n
      → owners i (many read step (n - i) s at)
      ≡ replicate (read s at).count (record { number = i; function = read s at }) ++ owners (i + 1) (many read step (n - (i + 1)) s (at + step))
  unfolding owners
  owners_step i h =
      let b : n - i - 1 ≡ n - (i + 1) = omega arith in
      rw (many_step read step (n - i) s at (omega arith), b, add-one)

-- Record counts taken off a total, one function after the other: `left` functions from f are ahead, and `rest` is left.

module _ (read : List ℕ → ℕ → Function) (step : ℕ) (s : List ℕ) (whole total : ℕ) where
  pub record Adding (f left rest : ℕ) : Type 0 where
    pub same : whole + rest ≡ total + counted (many read step left s f)

module _ {read : List ℕ → ℕ → Function} {step : ℕ} {s : List ℕ} {whole total f left rest : ℕ} (a : Adding read step s whole total f left rest) where
  -- the next count is k
  module _ {k : ℕ} (e : k ≡ (read s f).count) (h : 0 < left) where
    pub add-over : rest < k → false ≡ eqb whole total
    add-over o = let x = a.same in sym (ne_eqb whole total (λ z. omega (arith, counted_step read step left s f h)))

    pub add_on : k ≤ rest → Adding read step s whole total (f + step) (left - 1) (rest - k)
    add_on o = record { same = let x = a.same in omega (arith, counted_step read step left s f h) }

  pub add-end : left ≡ 0 → eqb rest 0 ≡ eqb whole total
  unfolding counted many
  add-end z = let x = rw z at a.same in eqb_iff rest 0 whole total (λ h. omega arith) (λ h. omega arith)

-- The same for a loop that counts up: turn number i of n.

pub fewer : (n i : ℕ) → n - i - 1 ≡ n - (i + 1)
fewer n i = omega arith

pub next_place : (k at i : ℕ) → at + k * i + k ≡ at + k * (i + 1)
next_place k at i = rw (add-one, mul-suc) (omega arith)

-- item number i of n, of k bytes each, ends at the last item's end or before it
pub item_inside : (k n i : ℕ) → i < n → k * i + k ≤ k * n
item_inside k zero i h = absurd (omega arith)
item_inside k (suc n) zero h = rw mul-suc (omega arith)
item_inside k (suc n) (suc i) h = let r = item_inside k n i (omega arith) in rw (mul-suc, mul-suc) (omega arith)

-- the function number f of n, counted up from the one at `at`
pub add_turn : {read : List ℕ → ℕ → Function} {step n : ℕ} (at i : ℕ) {s : List ℕ} {whole total rest k : ℕ}
    → Adding read step s whole total (at + step * i) (n - i) rest → k ≡ (read s (at + step * i)).count → i < n → k ≤ rest
    → Adding read step s whole total (at + step * (i + 1)) (n - (i + 1)) (rest - k)
add_turn {step = step} {n = n} at i a e h o = rw (← next_place step at i, ← fewer n i) (add_on a e (omega arith) o)

-- records are ahead only while functions are
pub owners-some : (read : List ℕ → ℕ → Function) (step n : ℕ) (s : List ℕ) (at i : ℕ) → 0 < length (owners i (many read step n s at)) → 0 < n
unfolding many owners
owners-some read step zero s at i h = h
owners-some read step (suc n) s at i h = omega arith

pub zeros_turn : (n i : ℕ) (s : List ℕ) (at : ℕ) → i < n
    → zeros (n - i) s (at + i) ≡ must (eqb (get_or s (at + i) 0) 0) 3 (at + i) (zeros (n - (i + 1)) s (at + (i + 1)))
zeros_turn n i s at h =
    let e : at + i + 1 ≡ at + (i + 1) = omega arith in
    rw (zeros_step (n - i) s (at + i) (omega arith), fewer, e)

pub locations_turn : (old : Bool) (n i : ℕ) (s : List ℕ) (c at : ℕ) → i < n
    → locations old (n - i) s c (at + location_size old * i)
    ≡ chain (location_check old s c (at + location_size old * i)) (locations old (n - (i + 1)) s c (at + location_size old * (i + 1)))
locations_turn old n i s c at h =
    rw (locations_step old (n - i) s c (at + location_size old * i) (omega arith), fewer, next_place (location_size old) at i)

pub live_outs_turn : (n i : ℕ) (s : List ℕ) (at : ℕ) → i < n
    → live_outs (n - i) s (at + 4 * i) ≡ must (eqb (get_or s (at + 4 * i + 2) 0) 0) 3 (at + 4 * i + 2) (live_outs (n - (i + 1)) s (at + 4 * (i + 1)))
live_outs_turn n i s at h =
    rw (live_outs_step (n - i) s (at + 4 * i) (omega arith), fewer, next_place 4 at i)
