use Prim.Native.Nat.{ℕ, ◌+◌, ◌*◌, ◌<◌}
use mathlib.Core.Path.{◌≡◌}
use lib.ListN.{get_or}
use Rattle.wire.specs.Word.{word}
use Rattle.replay_trace.proofs.steps.read_registers.Given as goal

abbrev pub invariant-loop-k : goal.invariant-loop-k
invariant-loop-k l = (j : ℕ) → j < l.k → get_or l.registers j 0 ≡ word 8 l.t (l.at + 18 + 8 * j)
