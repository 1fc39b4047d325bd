use Rattle.relocate.specs.declared.Cursor as CursorType
use Rattle.relocate.specs.Code.{record_of, pool_of}
use Rattle.relocate_pairs.proofs.Counting.{Seeking}
use Rattle.relocate_pairs.proofs.pairs.pair_of.Given as goal

abbrev pub invariant-loop-p : goal.invariant-loop-p
invariant-loop-p l = (f : CursorType.Cursor) → Seeking l.old (pool_of l.s) f (record_of l.s l.at) l.pointer l.left l.p
