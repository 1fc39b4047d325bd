use Prim.Native.Nat.{◌*◌, ◌≤◌}
use Rattle.flat_keys.proofs.named.Given as goal

abbrev pub invariant-loop-k : goal.invariant-loop-k
invariant-loop-k l = l.sum ≤ 65535 * l.k
