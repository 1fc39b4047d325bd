use Prim.Native.Nat.{ℕ, ◌+◌, ◌*◌, ◌-◌, ◌/◌, ◌%◌, ◌≤◌, ◌<◌}
use mathlib.Core.Path.{◌≡◌, ap, sym, ◌∙◌}
use native.Mathlib.Omega.{arith}
use Rattle.std.proofs.lemmas.Nat.{div-mul-add, div-add-mod'}
use Rattle.flat.specs.Layout.{align}
use Rattle.flat.proofs.offsets.after.Goals as goal

-- the multiple of k that is n or more, and less than n + k, is the aligned place
aligned : (k n m : ℕ) → 0 < k → n ≤ m → m < n + k → m % k ≡ 0 → m ≡ align k n
aligned k n m p a b e =
    let q : m / k * k ≡ m = omega (arith, div-add-mod' m k) in
    let w : n + (k - 1) ≡ m / k * k + (n + (k - 1) - m) = omega arith in
    sym (ap (λ (x : ℕ). x / k * k) w ∙ ap (λ (x : ℕ). x * k) (div-mul-add (m / k) k (n + (k - 1) - m) (omega arith)) ∙ q)

pub returns : goal.returns
returns c = let e = c.next_multiple_of.ensures in aligned _ _ _ (omega arith) e.lower_bound e.upper_bound e.multiple
