use Prim.Native.Nat.{◌-◌, ◌^◌, ◌≤◌, ◌<◌}
use Rattle.sorted_numbers.specs.Numbers.{Between}
use Rattle.thread_marks.specs.From.{Grown}
use Rattle.thread_search.proofs.Passing.{found, Keeping}
use Rattle.thread_search.proofs.search.walk_all.Given as goal

-- One walk checks the records and keeps what the search finds; it stops at records that may have one of the addresses.
abbrev pub invariant-loop-remaining : goal.invariant-loop-remaining
invariant-loop-remaining l = Keeping l.keys l.hits l.count l.s l.constants l.base (found l.keys l.count l.initial.hits) l.turn.next l.turn.left l.remaining (l.total - l.remaining) l.p × Grown l.initial.hits l.hits (l.total - l.remaining)
    × (l.remaining ≤ l.total) × (l.total < 2 ^ 32) × Between l.keys l.count l.gap.below l.gap.above l.gap.place

abbrev pub decreases-loop-remaining : goal.decreases-loop-remaining
decreases-loop-remaining l = l.remaining
