use Prim.Native.Nat.{◌-◌, ◌≤◌}
use lib.Dec.{leb}
use Rattle.stackmap.proofs.OneWalk.{Folding}
use Rattle.questions.specs.Kept.{no_hits, noted}
use Rattle.index.specs.Numbered.{rows_of}
use Rattle.index_follow.specs.Seen.{seen, Following}
use Rattle.index_check.proofs.walk_both.Given as goal

-- One walk checks the records, keeps what the search finds, and follows the list.
abbrev pub invariant-loop-number : goal.invariant-loop-number
invariant-loop-number l = Folding (noted l.address) l.s l.constants no_hits l.turn.next l.turn.left (l.n - l.number) l.number l.p l.hits × (l.hits.sharing ≤ l.number) × Folding (seen (rows_of l.n l.list)) l.s l.constants (leb l.place l.n) l.turn.next l.turn.left (l.n - l.number) l.number l.p (leb l.here l.n) × Following l.list l.n l.here
