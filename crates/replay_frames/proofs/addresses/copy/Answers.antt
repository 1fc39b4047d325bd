use mathlib.Core.Path.{◌≡◌}
use native.Mathlib.Omega.{arith}
use lib.ListN.{length-set}
use Rattle.replay_frames.proofs.Gathering.{copied_start, copied_on}
use Rattle.replay_frames.proofs.addresses.copy.Goals as goal

pub loop-k-init : goal.loop-k-init
loop-k-init c = (copied_start _ _ _, omega arith)

pub bounds-keys-k : goal.bounds-keys-k
bounds-keys-k c = omega (arith, c.loop-k.invariant.1)

pub loop-k-preserved : goal.loop-k-preserved
loop-k-preserved c =
    let l = c.loop-k in
    (copied_on _ _ _ l.invariant.0 (omega (arith, l.invariant.1)) c.u64_at.ensures, simp length-set l.invariant.1)

pub shape_of-keys : goal.shape_of-keys
shape_of-keys c = c.loop-k.invariant.1

pub returns : goal.returns
returns c = let z : c.loop-k.k ≡ c.args.n = omega arith in rw z at c.loop-k.invariant.0.each
