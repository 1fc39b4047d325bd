use mathlib.Core.Path.{◌≡◌}
use lib.ListN.{length}
use Rattle.thread_search.proofs.Gathering.{Copied}
use Rattle.thread_search.proofs.addresses.copy.Given as goal

abbrev pub invariant-loop-k : goal.invariant-loop-k
invariant-loop-k l = Copied l.frames l.keys l.k × (length l.keys ≡ length l.initial.keys)
