-- The frames of a list from the position k on.
use Prim.Native.Nat.{ℕ, suc, ◌+◌, ◌-◌, ◌≤◌, ◌<◌}
use mathlib.Core.Path.{◌≡◌}
use mathlib.Core.List.{[], ◌∷◌}
use native.Mathlib.Omega.{arith}
use Rattle.thread.specs.Thread.{Thread, stopped_at, frames_from}

pub frames_step : (ns : Thread) (n k : ℕ) → k < n → frames_from ns (n - k) k ≡ stopped_at ns k ∷ frames_from ns (n - (k + 1)) (k + 1)
frames_step ns n k h =
    let e : n - k ≡ suc (n - (k + 1)) = omega arith in
    let g : suc k ≡ k + 1 = omega arith in
    rw (e, g)

pub frames-end : (ns : Thread) (n k : ℕ) → n ≤ k → frames_from ns (n - k) k ≡ []
frames-end ns n k h = let e : n - k ≡ 0 = omega arith in rw e

pub frames-start : (ns : Thread) (n : ℕ) → frames_from ns (n - 0) 0 ≡ frames_from ns n 0
frames-start ns n = let e : n - 0 ≡ n = omega arith in rw e
