use Prim.Native.Nat.{◌-◌, ◌^◌, ◌≤◌, ◌<◌}
use lib.ListN.{length}
use Rattle.stackmap.proofs.OneWalk.{Folding}
use Rattle.questions.specs.Kept.{no_hits, noted}
use Rattle.questions_find.proofs.find.search.Given as goal

-- One walk checks the records and keeps what the search finds; it stops at records that may have the address.
abbrev pub invariant-loop-remaining : goal.invariant-loop-remaining
invariant-loop-remaining l = Folding (noted l.address) l.s l.constants no_hits l.turn.next l.turn.left l.remaining (l.count - l.remaining) l.p l.hits × (l.hits.sharing ≤ l.count - l.remaining) × (l.remaining ≤ l.count) × (l.count < 2 ^ 32) × (l.hits.first ≤ length l.s)

abbrev pub decreases-loop-remaining : goal.decreases-loop-remaining
decreases-loop-remaining l = l.remaining
