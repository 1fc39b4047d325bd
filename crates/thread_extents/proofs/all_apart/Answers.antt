use mathlib.Core.Path.{◌≡◌}
use native.Mathlib.Omega.{arith}
use Rattle.thread_extents.proofs.all_apart.Goals as goal

pub returns : goal.returns
returns g c =
    let z : c.loop-k.k ≡ c.args.count = omega arith in
    λ h from to e. c.all_apart.ensures h from to c.args.count (omega arith) (rw z at (c.loop-k.invariant.0 from to e))
