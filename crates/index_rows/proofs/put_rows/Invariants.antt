use Prim.Native.Nat.{◌-◌}
use mathlib.Core.Path.{◌≡◌}
use lib.ListN.{length}
use Rattle.stackmap.specs.Section.{num_constants, num_records}
use Rattle.stackmap.proofs.OneWalk.{Folding}
use Rattle.index_rows.specs.Filled.{filled}
use Rattle.index_rows.proofs.Rows.{none_filled}
use Rattle.index_rows.proofs.put_rows.Given as goal

-- The second walk: a fold of the entries, which writes a row for each.
abbrev pub invariant-loop-number : goal.invariant-loop-number
invariant-loop-number l = Folding filled l.s (num_constants l.s) (none_filled l.initial.index) l.turn.next l.turn.left (l.count - l.number) l.number l.p (record { list = l.index; last = l.last; rises = l.rises })
    × (length l.index ≡ length l.initial.index) × (l.count ≡ num_records l.s)
