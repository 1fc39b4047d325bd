use native.Mathlib.Omega.{arith}
use Rattle.flat_check.proofs.Chain.{accepted-told}
use Rattle.flat_check.proofs.Accept.{told_arranged}
use Rattle.flat_keys.proofs.named.Goals as goal

pub overflow_add-sum : goal.overflow_add-sum
overflow_add-sum c =
    let t = accepted-told _ c.requires in let a = told_arranged _ t
    in omega (arith, c.num_frames-n.ensures, c.from-sum.ensures, c.from-sum.type_inv)
