-- A loop that writes items of one kind, each of the same size in the section and in the listing.
use Prim.Native.Nat.{ℕ, ◌+◌, ◌*◌, ◌-◌, ◌≤◌, ◌<◌}
use mathlib.Core.Path.{◌≡◌}
use mathlib.Core.List.{List}
use native.Mathlib.Omega.{arith}
use native.Mathlib.Nat.{mul-le-mul_left}
use lib.ListN.{length}
use Rattle.stackmap.specs.Fields.{Field, size}
use Rattle.stackmap.proofs.Steps.{mul_step}
use Rattle.lister_items.specs.Put.{Put, fields_of}
use Rattle.lister_items.proofs.Puts.{Putting, putting_start, putting_on, putting_end, put-long, first_item, no_item}

module _ (fields : List ℕ → ℕ → List Field) (step long : ℕ) (s : List ℕ) (at count : ℕ) (out₀ : List ℕ) (to : ℕ) where
  -- the first i of the items from `at` are written, and the next goes to the place t
  pub record Running (out : List ℕ) (i t : ℕ) : Type 0 where
    pub most : i ≤ count
    pub inside : at + step * count ≤ length s
    pub room : t + long * (count - i) ≤ length out
    pub putting : Putting out₀ to (fields_of fields step count s at) out t (fields_of fields step (count - i) s (at + step * i))

module _ {fields : List ℕ → ℕ → List Field} {step long : ℕ} {s : List ℕ} {at count : ℕ} {out₀ : List ℕ} {to : ℕ} where
  pub run-start : at + step * count ≤ length s → to + long * count ≤ length out₀ → Running fields step long s at count out₀ to out₀ 0 to
  run-start h k =
      let z : at + step * 0 ≡ at = omega arith in
      let n : count - 0 ≡ count = omega arith in
      record { most = omega arith; inside = h; room = rw n k; putting = rw (z, n) (putting_start _ _ _) }

  module _ {out : List ℕ} {i t : ℕ} (w : Running fields step long s at count out₀ to out i t) where
    -- the next item is inside, and there is room for it
    pub run_here : i < count → (at + step * i + step ≤ length s) × (t + long ≤ length out)
    run_here h =
        let k = w.inside in
        let r = w.room in
        let n = mul_step long (count - i) (omega arith) in
        let f : i + 1 ≤ count = omega arith in
        (omega (arith, mul-le-mul_left step f), omega arith)

    pub run_on : {out' : List ℕ} {t' : ℕ} → ((s : List ℕ) (at : ℕ) → size (fields s at) ≡ long) → i < count → Put out out' t t' (fields s (at + step * i))
        → Running fields step long s at count out₀ to out' (i + 1) t'
    run_on even h q =
        let r = w.room in
        let e = q.ends in
        let l = put-long q in
        let z = even s (at + step * i) in
        let m = mul_step long (count - i) (omega arith) in
        let p : at + step * (i + 1) ≡ at + step * i + step = omega arith in
        let n : count - (i + 1) ≡ count - i - 1 = omega arith in
        record {
          most = omega arith;
          inside = w.inside;
          room = rw n (omega arith);
          putting = rw (p, n) (putting_on (fields s (at + step * i)) _ w.putting (first_item (λ fs. fs) fields step s (count - i) (at + step * i) (omega arith)) q);
        }

    pub run_end : i ≡ count → Put out₀ out to t (fields_of fields step count s at)
    run_end h = putting_end w.putting (no_item (λ fs. fs) fields step s (count - i) (at + step * i) (omega arith))
