use Rattle.relocate.specs.Statepoint.{right_form}
use Rattle.relocate.specs.Code.{record_of, pool_of, count_of}
use Rattle.relocate_pairs.proofs.Forms.{Looking}
use Rattle.relocate_pairs.proofs.Counting.{Counting}
use Rattle.relocate_pairs.proofs.pairs.check_forms.Given as goal

abbrev pub invariant-loop-p : goal.invariant-loop-p
invariant-loop-p l = Looking (right_form l.machine l.old (pool_of l.s)) (record_of l.s l.at) l.count l.p × Counting (count_of l.old (pool_of l.s)) (record_of l.s l.at) l.pointers l.p
