use Rattle.moves.specs.Arrays as arrays
use Rattle.relocate.specs.Limits.{register_count}
use Rattle.relocate.specs.Statepoint.{inside}
use Rattle.relocate.specs.Code.{record_of, pool_of, Room}
use Rattle.relocate_pairs.proofs.Forms.{Looking}
use Rattle.relocate_pairs.proofs.Counting.{Filling}
use Rattle.relocate_pairs.proofs.fill.fill.Given as goal

abbrev pub invariant-loop-p : goal.invariant-loop-p
invariant-loop-p l = Looking (inside l.old (pool_of l.s) l.frame l.size) (record_of l.s l.at) l.count l.p × Room l.live l.bases l.derived
    × Filling l.old (pool_of l.s) l.frame (record_of l.s l.at) (arrays.pointers_of l.n l.live l.bases l.derived) l.p × arrays.AllPlaced l.size register_count l.n l.live l.bases l.derived
